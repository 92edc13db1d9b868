use Rattle.std.proofs.Common.{map}
use Rattle.std.specs.Prelude.{Ok}
use Rattle.std.proofs.lemmas.Iterator.Consumers.{YieldsList-from_first, map_from_collect}
use Rattle.bites_spec.specs.Captured.{excerpt}
use Rattle.bites_spec.specs.Iteration.{spans_in}
use Rattle.bites_bytes.specs.Matched.{excerpt_of}
use Rattle.bites_bytes.specs.Matches.{matches_left}
use Rattle.bites_theorems.proofs.SuccessiveLemmas.{all_matches}
use Rattle.bites_theorems.proofs.headline.over_bytes.all_matches.Goals as goal

pub returns : goal.returns
returns c =
    let r = c.args.regex.now in let hay = c.args.haystack.now in
    all_matches excerpt_of hay r c.as_str.ensures.compiled c.in_ok-matches.matches.items
    (map_from_collect {E = Unit {0}} (Ok c.in_ok-matches.matches) c.in_ok-matches.ensures.ran
    (YieldsList-from_first excerpt_of matches_left (map (excerpt hay) (spans_in r hay)) c.in_ok-find_iter.ensures))
