use Rattle.std.proofs.Common.{◌≡◌, ◌*◌, ◌-◌, drop}
use Rattle.bites_spec.specs.Tree.{sequence, all_are_nullable, some_is_nullable, trees_of}
use Rattle.bites_spec.specs.Measure.{height}
use Rattle.bites_syntax.proofs.measure.+nullable.Given as goal

abbrev pub decreases-is_nullable : goal.decreases-is_nullable
decreases-is_nullable l = 2 * height l.tree.now

abbrev pub decreases-all_are_nullable : goal.decreases-all_are_nullable
decreases-all_are_nullable l = 2 * height (sequence (trees_of l.parts.now)) - 1

abbrev pub decreases-some_is_nullable : goal.decreases-some_is_nullable
decreases-some_is_nullable l = 2 * height (sequence (trees_of l.parts.now)) - 1

abbrev pub invariant-all_are_nullable-loop-part : goal.invariant-all_are_nullable-loop-part
invariant-all_are_nullable-loop-part l = all_are_nullable (trees_of l.parts) ≡ all_are_nullable (trees_of (drop l.part-index l.parts))

abbrev pub invariant-some_is_nullable-loop-part : goal.invariant-some_is_nullable-loop-part
invariant-some_is_nullable-loop-part l = some_is_nullable (trees_of l.parts) ≡ some_is_nullable (trees_of (drop l.part-index l.parts))
