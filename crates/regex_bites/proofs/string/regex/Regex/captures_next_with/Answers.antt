use Rattle.std.proofs.Common.{Some}
use Rattle.bites_bytes.specs.NextCaptured.{FindsNextCaptured}
use Rattle.regex_bites.proofs.BorderLemmas.{over_text, found_next_groups}
use Rattle.regex_bites.proofs.string.regex.Regex.captures_next_with.Goals as goal

pub of-requires : goal.of-requires
of-requires c =
    let found = over_text (λ r h. FindsNextCaptured r h c.args.last (Some c.in_ok-captures.field-0))
    _ _ _ _ c.over_bytes.ensures.same c.as_bytes.ensures.value c.in_ok-captures.ensures.found.found in
    found_next_groups c.args.haystack.now c.utf8.haystack c.args.self.now c.over_bytes.ensures.compiled c.args.last c.requires.border c.in_ok-captures.field-0 found
    c.in-Ok.captures c.in-Ok.is
