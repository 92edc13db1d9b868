use Rattle.std.proofs.Common.{◌<◌, ℕ}
use Rattle.bites_table.proofs.Words.{table_of, LeadsQuietly}
use Rattle.bites_table.proofs.explore.rests.are_quiet.Given as goal

abbrev pub invariant-loop-class : goal.invariant-loop-class
invariant-loop-class l = (c : ℕ) → c < l.class → LeadsQuietly (table_of l.graph) l.number c
