use Rattle.std.proofs.Common.{map}
use Rattle.std.specs.Prelude.{Ok}
use Rattle.std.proofs.lemmas.Iterator.Consumers.{YieldsList-from_first, map_from_collect}
use Rattle.bites_spec.specs.Captured.{excerpt}
use Rattle.bites_spec.specs.Iteration.{spans_in}
use Rattle.regex_bites.specs.Matched.{excerpt_of}
use Rattle.regex_bites.specs.Matches.{matches_left}
use Rattle.regex_bites.specs.CapturesLeft.{captures_left}
use Rattle.bites_theorems.proofs.SuccessiveLemmas.{wholes_are_matches}
use Rattle.bites_theorems.proofs.successive.over_texts.matches_and_groups_0.Goals as goal

pub returns : goal.returns
returns c =
    let r = c.args.regex.now in let hay = c.args.haystack.now in
    let found = map_from_collect {E = Unit {0}} (Ok c.in_ok-matches.matches) c.in_ok-matches.ensures.ran
    (YieldsList-from_first excerpt_of matches_left (map (excerpt hay) (spans_in r hay)) c.in_ok-find_iter.ensures) in
    wholes_are_matches excerpt_of r c.as_str.ensures.compiled hay c.loop-captures.wholes.items c.in_ok-matches.matches.items
    (captures_left c.loop-captures.captures-iterator) c.loop-captures.invariant c.in-None.ensures.steps.0 found
