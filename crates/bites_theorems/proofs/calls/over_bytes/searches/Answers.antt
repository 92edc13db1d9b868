use Rattle.bites_spec.proofs.Laws as laws
use Rattle.bites_bytes.specs.Matched.{excerpt_of}
use Rattle.bites_theorems.proofs.AnswerLemmas.{answers}
use Rattle.bites_theorems.proofs.calls.over_bytes.searches.Goals as goal

pub returns : goal.returns
returns c =
    answers c.args.regex.now c.args.haystack.now c.args.start _ (laws.searches_have_starts c.args.haystack.now c.args.start).0 excerpt_of c.as_str.ensures.compiled _
    c.is_match_at.ensures c.find_at.ensures c.captures_at.ensures c.static_captures_len.ensures
