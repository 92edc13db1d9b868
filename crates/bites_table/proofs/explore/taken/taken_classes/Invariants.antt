use Rattle.std.proofs.Common.{◌≡◌, length}
use Rattle.bites_table.proofs.Words.{classes_of, AreTaken}
use Rattle.bites_table.proofs.explore.taken.taken_classes.Given as goal

abbrev pub invariant-loop-state : goal.invariant-loop-state
invariant-loop-state l = record {
  taken : AreTaken l.program.program (classes_of l.classes) l.bits.items;
  len : length l.bits.items ≡ l.state-index;
}
