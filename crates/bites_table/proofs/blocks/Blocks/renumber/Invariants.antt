use Rattle.std.proofs.Common.{◌≡◌, ◌+◌, ◌<◌, ◌≤◌, ℕ, length}
use Rattle.bites_table.specs.Blocks.{at, IsMoved}
use Rattle.bites_table.proofs.blocks.Blocks.renumber.Given as goal

abbrev pub invariant-loop-interval : goal.invariant-loop-interval
invariant-loop-interval l = record {
  moved : IsMoved l.from l.fn.self.of.items l.self;
  len : length l.self.of.items ≡ length l.fn.self.of.items;
  marks : (k : ℕ) → k < l.interval → l.from ≤ at l.self.of.items k;
}

abbrev pub invariant-loop-interval-2 : goal.invariant-loop-interval-2
invariant-loop-interval-2 l = record {
  len : length l.self.of.items ≡ length l.fn.self.of.items;
  done : (k : ℕ) → k < l.interval → at l.self.of.items k + l.from ≡ at l.initial.self.of.items k;
  left : (k : ℕ) → l.interval ≤ k → at l.self.of.items k ≡ at l.initial.self.of.items k;
  same_len : l.self.len ≡ l.initial.self.len;
}
