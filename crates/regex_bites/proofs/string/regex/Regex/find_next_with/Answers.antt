use Rattle.std.proofs.Common.{option_map}
use Rattle.bites_bytes.specs.Calls.{FindsNext}
use Rattle.bites_bytes.specs.Matched.{excerpt_of}
use Rattle.regex_bites.proofs.BorderLemmas.{over_text, next_part}
use Rattle.regex_bites.proofs.string.regex.Regex.find_next_with.Goals as goal

pub of_found-requires : goal.of_found-requires
of_found-requires c =
    let hay = c.args.haystack.now in let found = c.find_next_with-found in
    let next = over_text (λ r h. FindsNext r h c.args.last (option_map excerpt_of found.result))
    _ _ _ _ c.over_bytes.ensures.same c.as_bytes.ensures.value found.ensures.found in
    next_part hay c.utf8.haystack c.args.self.now c.over_bytes.ensures.compiled excerpt_of c.args.last c.requires.border found.result next
