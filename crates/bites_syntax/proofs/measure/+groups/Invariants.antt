use Rattle.std.proofs.Common.{◌≡◌, ◌*◌, ◌-◌, max, drop}
use Rattle.bites_spec.specs.Tree.{sequence, greatest, groups_in_all, trees_of}
use Rattle.bites_spec.specs.Measure.{height}
use Rattle.bites_syntax.proofs.measure.+groups.Given as goal

abbrev pub decreases-greatest_group : goal.decreases-greatest_group
decreases-greatest_group l = 2 * height l.tree.now

abbrev pub decreases-greatest_group_of : goal.decreases-greatest_group_of
decreases-greatest_group_of l = 2 * height (sequence (trees_of l.parts.now)) - 1

abbrev pub invariant-greatest_group_of-loop-part : goal.invariant-greatest_group_of-loop-part
invariant-greatest_group_of-loop-part l =
    max l.most (greatest (groups_in_all (trees_of (drop l.part-index l.parts)))) ≡ greatest (groups_in_all (trees_of l.parts))
