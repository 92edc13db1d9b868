use Rattle.std.proofs.Common.{ℕ, ◌-◌, ◌<◌, ◌≤◌, length}
use Rattle.bites_table.specs.Blocks.{at}
use Rattle.bites_table.proofs.blocks.interval_of.Given as goal

abbrev pub invariant-loop-high : goal.invariant-loop-high
invariant-loop-high l = record {
  between : l.low < l.high;
  within : l.high ≤ length l.begins;
  below : at l.begins l.low ≤ l.number;
  above : (k : ℕ) → l.high ≤ k → k < length l.begins → l.number < at l.begins k;
}

abbrev pub decreases-loop-high : goal.decreases-loop-high
decreases-loop-high l = l.high - l.low
