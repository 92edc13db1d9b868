use Rattle.std.proofs.Common.{false}
use Rattle.bites_bytes.specs.Matched.{excerpt_of}
use Rattle.regex_bites.proofs.BorderLemmas.{part_found}
use Rattle.regex_bites.proofs.string.regex.Regex.find_at.Goals as goal

pub of_found-requires : goal.of_found-requires
of_found-requires c =
    part_found _ _ _ _ c.over_bytes.ensures.same c.as_bytes.ensures.value c.utf8.haystack c.over_bytes.ensures.compiled false c.args.start c.requires excerpt_of c.in_ok-found.found c.in_ok-found.ensures
