use Rattle.bites_machine.proofs.Library.{◌-◌, ◌≤◌, length, AreRanges}
use Rattle.bites_machine.proofs.compile.BitLemmas.{AllEndBelow, AllBeginAbove}
use Rattle.bites_machine.proofs.ranges.is_in_ranges.Given as goal

abbrev pub invariant-loop-low : goal.invariant-loop-low
invariant-loop-low l = record {
  below : AreRanges l.ranges → AllEndBelow l.ranges l.low l.c;
  above : AreRanges l.ranges → AllBeginAbove l.ranges l.high l.c;
  within : l.high ≤ length l.ranges;
}

abbrev pub decreases-loop-low : goal.decreases-loop-low
decreases-loop-low l = l.high - l.low
