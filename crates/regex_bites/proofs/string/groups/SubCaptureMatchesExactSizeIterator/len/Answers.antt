use Rattle.std.proofs.Common.{◌∙◌, ◌-◌, ap, sym}
use Rattle.std.proofs.lemmas.List.FromFn.{length-map-range_with_len}
use Rattle.regex_bites.proofs.string.groups.SubCaptureMatchesExactSizeIterator.len.Goals as goal

pub returns-clause-value : goal.returns-clause-value
returns-clause-value c =
    c.saturating_sub.ensures ∙ ap (λ n. n - c.args.self.now.next) c.len.ensures.groups
    ∙ sym (length-map-range_with_len _ c.args.self.now.next _)
