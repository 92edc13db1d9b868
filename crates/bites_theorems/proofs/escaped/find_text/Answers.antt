use Rattle.regex_bites.specs.Matched.{excerpt_of}
use Rattle.bites_theorems.proofs.EscapedLemmas.{text_is_found}
use Rattle.bites_theorems.proofs.escaped.find_text.Goals as goal

pub returns-clause-first : goal.returns-clause-first
returns-clause-first c =
    text_is_found c.args.haystack.now c.args.text.now c.utf8.haystack c.utf8.text c.in_ok-regex.regex c.in_ok-regex.ensures.tree
    excerpt_of c.in_ok-found.found c.in_ok-found.ensures
