use Rattle.std.proofs.Common.{true}
use Rattle.bites_bytes.specs.Matched.{excerpt_of}
use Rattle.regex_bites.proofs.BorderLemmas.{part_found}
use Rattle.regex_bites.proofs.string.regex.Regex.find_anchored_at_with.Goals as goal

pub of_found-requires : goal.of_found-requires
of_found-requires c =
    part_found _ _ _ _ c.over_bytes.ensures.same c.as_bytes.ensures.value c.utf8.haystack c.over_bytes.ensures.compiled true c.args.start c.requires.border excerpt_of c.find_anchored_at_with-found.result c.find_anchored_at_with-found.ensures.found
