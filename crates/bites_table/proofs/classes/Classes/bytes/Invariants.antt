use Rattle.bites_table.proofs.Library.{◌≡◌, ◌<◌, ◌≤◌, ℕ, length, Some, false, slice_index_or}
use Rattle.bites_table.specs.Classes.{class_by}
use Rattle.bites_table.proofs.classes.Classes.bytes.Given as goal

abbrev pub invariant-loop-byte : goal.invariant-loop-byte
invariant-loop-byte l = record {
  len : length l.bytes ≡ 256;
  done : (b : ℕ) → b < l.byte → slice_index_or l.bytes b false ≡ slice_index_or l.keeps (class_by l.self (Some b)) false;
  left : (b : ℕ) → l.byte ≤ b → slice_index_or l.bytes b false ≡ false;
}
