use Rattle.std.proofs.Common.{◌≡◌, ◌<◌, ℕ, map}
use Rattle.bites_table.proofs.Words.{row_of_register, source_at, source_of}
use Rattle.bites_table.proofs.table.sequence.are_own.Given as goal

abbrev pub invariant-loop-to : goal.invariant-loop-to
invariant-loop-to l = (r : ℕ) → r < l.to → source_at (map source_of l.moves) r ≡ row_of_register r
