use Rattle.std.proofs.Common.{false}
use Rattle.regex_bites.proofs.BorderLemmas.{groups_found}
use Rattle.regex_bites.proofs.string.regex.Regex.captures_at_with.Goals as goal

pub of-requires : goal.of-requires
of-requires c =
    groups_found _ _ _ _ c.over_bytes.ensures.same c.as_bytes.ensures.value c.utf8.haystack c.over_bytes.ensures.compiled false c.args.start c.requires.border
    c.in_ok-captures.field-0 c.in_ok-captures.ensures.found c.in-Some.captures c.in-Some.is
