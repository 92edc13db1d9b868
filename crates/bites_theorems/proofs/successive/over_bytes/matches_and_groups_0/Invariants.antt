use Rattle.bites_spec.specs.Iteration.{captures_in}
use Rattle.bites_bytes.specs.Matched.{excerpt_of}
use Rattle.bites_bytes.specs.CapturesLeft.{captures_left}
use Rattle.bites_theorems.proofs.SuccessiveLemmas.{WithRest}
use Rattle.bites_theorems.proofs.successive.over_bytes.matches_and_groups_0.Given as goal

abbrev pub invariant-loop-captures : goal.invariant-loop-captures
invariant-loop-captures l = WithRest excerpt_of l.wholes.items (captures_left l.captures-iterator) (captures_in l.regex l.haystack)
