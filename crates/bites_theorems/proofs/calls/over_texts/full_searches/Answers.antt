use Rattle.bites_theorems.proofs.FullLemmas.{full_text_answers}
use Rattle.bites_theorems.proofs.calls.over_texts.full_searches.Goals as goal

pub returns : goal.returns
returns c =
    full_text_answers c.args.regex.now c.args.haystack.now c.is_full_match.result c.captures_full.result c.is_full_match.ensures c.captures_full.ensures c.utf8.haystack
