use Rattle.bites_table.proofs.Library.{◌≡◌, length, Program}
use Rattle.bites_table.proofs.Words.{classes_of, TellsApart, AreBefore}
use Rattle.bites_table.proofs.explore.after.kinds_before.Given as goal

abbrev pub invariant-loop-class : goal.invariant-loop-class
invariant-loop-class l = record {
  before : (p : Program) → TellsApart p l.kinds → AreBefore p (classes_of l.classes) l.before.items;
  len : length l.before.items ≡ l.class;
}
