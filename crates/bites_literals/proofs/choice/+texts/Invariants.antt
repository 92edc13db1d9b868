use Rattle.std.proofs.Common.{◌*◌, ◌-◌, drop}
use Rattle.bites_spec.specs.Tree.{sequence, trees_of}
use Rattle.bites_spec.specs.Measure.{height}
use Rattle.bites_literals.proofs.ChoiceLemmas.{HasSoFar}
use Rattle.bites_literals.proofs.choice.+texts.Given as goal

abbrev pub decreases-add_texts : goal.decreases-add_texts
decreases-add_texts l = 2 * height l.tree.now

abbrev pub decreases-add_texts_of_sequence : goal.decreases-add_texts_of_sequence
decreases-add_texts_of_sequence l = 2 * height (sequence (trees_of l.parts.now)) - 1

abbrev pub decreases-add_texts_of_each : goal.decreases-add_texts_of_each
decreases-add_texts_of_each l = 2 * height (sequence (trees_of l.parts.now)) - 1

abbrev pub invariant-add_texts_of_each-loop-branch : goal.invariant-add_texts_of_each-loop-branch
invariant-add_texts_of_each-loop-branch l = HasSoFar l.front (trees_of l.parts) (trees_of (drop l.branch l.parts)) l.fn.texts.items l.texts.items
