use Rattle.std.proofs.Common.{◌≡◌, ◌++◌, ◌≤◌, drop}
use Rattle.bites_syntax.proofs.Gaps.{gaps}
use Rattle.bites_syntax.proofs.class.gaps.Given as goal

abbrev pub invariant-ranges-2 : goal.invariant-ranges-2
invariant-ranges-2 l = record {
  low : l.low ≤ 0x10_FFFF;
  so_far : l.others.items ++ gaps l.low (drop l.range-index l.ranges) ≡ gaps 0 l.ranges;
}
