use Rattle.std.proofs.Common.{◌≡◌, ◌*◌, ◌-◌, ◌≤◌, max, min, drop}
use Rattle.bites_spec.specs.Tree.{sequence, trees_of}
use Rattle.bites_spec.specs.Measure.{height, tallest}
use Rattle.bites_syntax.proofs.measure.+height.Given as goal

abbrev pub decreases-height : goal.decreases-height
decreases-height l = 2 * height l.tree.now

abbrev pub decreases-tallest : goal.decreases-tallest
decreases-tallest l = 2 * height (sequence (trees_of l.parts.now)) - 1

abbrev pub invariant-tallest-loop-part : goal.invariant-tallest-loop-part
invariant-tallest-loop-part l = record {
  so_far : min (max l.most (tallest (trees_of (drop l.part-index l.parts)))) 4294967295 ≡ min (tallest (trees_of l.parts)) 4294967295;
  fits : l.most ≤ 4294967295;
}
