use Rattle.bites_bytes.specs.Matched.{excerpt_of}
use Rattle.regex_bites.proofs.BorderLemmas.{group_part}
use Rattle.regex_bites.proofs.string.captures.Captures.get.Goals as goal

pub of_found-requires : goal.of_found-requires
of_found-requires c =
    group_part c.self.inside.haystack.now c.self.inside.captures c.self.invariant excerpt_of c.args.group c.get-found.result c.get-found.ensures
