use Rattle.bites_table.proofs.Library.{◌≡◌, ℕ, ◌-◌, ◌<◌, ◌≤◌, ◌&&◌, ◌||◌, List, length, nat_le, nat_lt, in_range}
use Rattle.bites_table.specs.Blocks.{at, IsMoved}
use Rattle.bites_table.proofs.blocks.Blocks.move_range.Given as goal

abbrev pub invariant-loop-interval : goal.invariant-loop-interval
invariant-loop-interval l = record {
  from_in : l.from ≤ l.self.len;
  moved : (old : List ℕ) → IsMoved l.from old l.fn.self → IsMoved l.from old l.self;
  len : length l.self.of.items ≡ length l.begins;
  up_to : (k : ℕ) → l.interval ≤ k → k < length l.begins → l.first ≤ at l.begins k;
  marks : (k : ℕ) → k < length l.begins →
      nat_le l.from (at l.self.of.items k) ≡ (nat_le l.from (at l.fn.self.of.items k) || (in_range (l.first, l.last) (at l.begins k) && nat_lt k l.interval));
}

abbrev pub decreases-loop-interval : goal.decreases-loop-interval
decreases-loop-interval l = length l.begins - l.interval
