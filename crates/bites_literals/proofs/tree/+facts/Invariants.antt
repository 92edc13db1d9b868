use Rattle.std.proofs.Common.{◌*◌, ◌-◌, drop}
use Rattle.bites_spec.specs.Tree.{sequence, trees_of}
use Rattle.bites_spec.specs.Measure.{height}
use Rattle.bites_literals.specs.Facts.{AreAllFacts, AreSomeFacts}
use Rattle.bites_literals.proofs.tree.+facts.Given as goal

abbrev pub decreases-facts_of : goal.decreases-facts_of
decreases-facts_of l = 2 * height l.tree.now

abbrev pub decreases-facts_of_sequence : goal.decreases-facts_of_sequence
decreases-facts_of_sequence l = 2 * height (sequence (trees_of l.parts.now)) - 1

abbrev pub decreases-facts_of_alternation : goal.decreases-facts_of_alternation
decreases-facts_of_alternation l = 2 * height (sequence (trees_of l.parts.now)) - 1

abbrev pub invariant-facts_of_sequence-loop-i : goal.invariant-facts_of_sequence-loop-i
invariant-facts_of_sequence-loop-i l = AreAllFacts (trees_of (drop l.i l.parts)) l.facts

abbrev pub invariant-facts_of_alternation-loop-i : goal.invariant-facts_of_alternation-loop-i
invariant-facts_of_alternation-loop-i l = AreSomeFacts (trees_of (drop l.i l.parts)) l.facts
