use Rattle.bites_theorems.proofs.FullLemmas.{full_answers}
use Rattle.bites_theorems.proofs.calls.over_bytes.full_searches.Goals as goal

pub returns : goal.returns
returns c =
    full_answers c.args.regex.now c.args.haystack.now c.is_full_match.result c.captures_full.result c.is_full_match.ensures c.captures_full.ensures
