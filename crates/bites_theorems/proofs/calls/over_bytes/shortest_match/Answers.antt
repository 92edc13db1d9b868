use Rattle.bites_spec.proofs.Laws as laws
use Rattle.bites_bytes.specs.Matched.{excerpt_of}
use Rattle.bites_theorems.proofs.AnswerLemmas.{end_answers}
use Rattle.bites_theorems.proofs.calls.over_bytes.shortest_match.Goals as goal

pub returns : goal.returns
returns c =
    end_answers c.args.regex.now c.args.haystack.now c.args.start _ (laws.searches_have_starts c.args.haystack.now c.args.start).0 excerpt_of
    c.shortest_match_at.result c.find_at.result c.shortest_match_at.ensures c.find_at.ensures
