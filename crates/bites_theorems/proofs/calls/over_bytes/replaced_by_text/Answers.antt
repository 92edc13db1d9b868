use Rattle.std.proofs.Common.{ap, map, ◌∙◌}
use Rattle.bites_spec.specs.Pieces.{limited, replaced}
use Rattle.bites_spec.specs.Iteration.{captures_in}
use Rattle.bites_spec.specs.Replaced.{span_in}
use Rattle.bites_spec.proofs.Laws as laws
use Rattle.bites_bytes.specs.contracts.bytes.replacer.NoExpandReplacer.TheImpl.{replaces-value, answers-value}
use Rattle.bites_theorems.proofs.SuccessiveLemmas.{text_served}
use Rattle.bites_theorems.proofs.calls.over_bytes.replaced_by_text.Goals as goal

pub returns : goal.returns
returns c =
    let r = c.args.regex.now in let hay = c.args.haystack.now in let text = c.args.text.now in let cs = captures_in r hay in
    let h = c.in_ok-replaced.ensures.replaces in
    let asked = h.1.1 in
    let texts = text_served replaces-value.it answers-value.it asked.0 text asked.1 (limited c.args.limit cs) h.1.0 h.0 asked.2.0 asked.3 in
    (cs, laws.groups_are_successive r c.as_str.ensures.compiled hay, h.1.2 ∙ ap (replaced hay c.args.limit (map span_in cs)) texts)
