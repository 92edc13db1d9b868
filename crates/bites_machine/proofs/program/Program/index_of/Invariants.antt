use Rattle.bites_machine.proofs.Library.{◌≢◌, ◌<◌, ℕ, None, Some, slice_index_or}
use Rattle.bites_machine.proofs.program.Program.index_of.Given as goal

abbrev pub invariant-loop-i : goal.invariant-loop-i
invariant-loop-i l = (j : ℕ) → j < l.i → slice_index_or l.self.names j None ≢ Some l.name
