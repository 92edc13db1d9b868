use Rattle.std.proofs.Common.{◌≡◌, ◌<◌, ◌≤◌, ◌↔◌, ℕ, true, false, length, slice_index_or}
use Rattle.bites_literals.specs.Ascii.{Has}
use Rattle.bites_literals.proofs.ascii.AsciiSet.flags.Given as goal

abbrev pub invariant-loop-byte : goal.invariant-loop-byte
invariant-loop-byte l =
    (length l.flags ≡ 256)
    × ((b : ℕ) → b < l.byte → slice_index_or l.flags b false ≡ true ↔ Has l.self b)
    × ((b : ℕ) → 128 ≤ b → b < 256 → slice_index_or l.flags b false ≡ l.others)
