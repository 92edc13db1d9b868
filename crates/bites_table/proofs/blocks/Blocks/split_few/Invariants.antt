use Rattle.bites_table.proofs.Library.{◌≡◌, ℕ, ◌<◌, length, take, nat_le, in_ranges}
use Rattle.bites_table.specs.Blocks.{at, IsMoved}
use Rattle.bites_table.proofs.blocks.Blocks.split_few.Given as goal

abbrev pub invariant-loop-first : goal.invariant-loop-first
invariant-loop-first l = record {
  moved : IsMoved l.from l.fn.self.of.items l.self;
  len : length l.self.of.items ≡ length l.begins;
  marks : (k : ℕ) → k < length l.begins → nat_le l.from (at l.self.of.items k) ≡ in_ranges (take l.first-index l.ranges) (at l.begins k);
}
