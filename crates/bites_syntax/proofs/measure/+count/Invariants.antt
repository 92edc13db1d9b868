use Rattle.std.proofs.Common.{◌≡◌, ◌+◌, ◌*◌, ◌-◌, ◌≤◌, drop, length, Some}
use Rattle.bites_spec.specs.Tree.{sequence, groups_in_all, trees_of}
use Rattle.bites_spec.specs.Measure.{height, both, static_sum, static_agreed}
use Rattle.bites_syntax.proofs.TreeParts.{agreed_with}
use Rattle.bites_syntax.proofs.measure.+count.Given as goal

abbrev pub decreases-static_count : goal.decreases-static_count
decreases-static_count l = 2 * height l.tree.now

abbrev pub decreases-static_sum : goal.decreases-static_sum
decreases-static_sum l = 2 * height (sequence (trees_of l.parts.now)) - 1

abbrev pub decreases-static_agreed : goal.decreases-static_agreed
decreases-static_agreed l = 2 * height (sequence (trees_of l.parts.now)) - 1

abbrev pub invariant-static_sum-loop-part : goal.invariant-static_sum-loop-part
invariant-static_sum-loop-part l = record {
  sum : both (Some l.sum) (static_sum (trees_of (drop l.part-index l.parts))) ≡ static_sum (trees_of l.parts);
  fits : l.sum + length (groups_in_all (trees_of (drop l.part-index l.parts))) ≤ length (groups_in_all (trees_of l.parts));
}

abbrev pub invariant-static_agreed-loop-part : goal.invariant-static_agreed-loop-part
invariant-static_agreed-loop-part l = record {
  agreed : agreed_with l.count (trees_of (drop l.part-index l.rest)) ≡ static_agreed (trees_of l.parts);
  fits : length (groups_in_all (trees_of (drop l.part-index l.rest))) ≤ length (groups_in_all (trees_of l.parts));
}
