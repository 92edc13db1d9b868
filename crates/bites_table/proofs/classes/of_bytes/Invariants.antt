use Rattle.std.proofs.Common.{◌≡◌, ◌<◌, ◌≤◌, ℕ, length}
use Rattle.bites_table.specs.Blocks.{at}
use Rattle.bites_table.proofs.classes.of_bytes.Given as goal

abbrev pub invariant-loop-interval : goal.invariant-loop-interval
invariant-loop-interval l = record {
  len : length l.bytes ≡ 256;
  ascii : 0 < l.interval → (b : ℕ) → b < 128 → (i : ℕ) × (i < l.interval) × (at l.begins i ≤ b) × ((k : ℕ) → i < k → k < l.interval → b < at l.begins k) × (at l.bytes b ≡ at l.of i);
  rest : (b : ℕ) → 128 ≤ b → b < 256 → at l.bytes b ≡ l.past;
}
