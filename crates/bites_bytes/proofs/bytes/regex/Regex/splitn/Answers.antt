use Rattle.std.proofs.Common.{◌∙◌, false, refl, ap}
use Rattle.std.specs.Prelude.{unwrap_or}
use Rattle.bites_spec.specs.Iteration.{spans_after}
use Rattle.bites_bytes.specs.Matches.{spans_left}
use Rattle.bites_bytes.proofs.SplitLemmas.{limited_start}
use Rattle.bites_bytes.proofs.bytes.regex.Regex.splitn.Goals as goal

pub returns : goal.returns
returns c =
    let e = c.in_ok-new.ensures in let s = c.in_ok-new.field-0.cursor in let hay = c.args.haystack.now in
    limited_start s.haystack.now (unwrap_or s.last 0) false refl c.args.self.now hay e.haystack (ap (λ o. unwrap_or o 0) e.last) (spans_left s)
    (ap (λ h. spans_after s.regex.now h s.last) e.haystack ∙ ap (λ r. spans_after r hay s.last) e.regex ∙ ap (spans_after c.args.self.now hay) e.last) c.args.limit
