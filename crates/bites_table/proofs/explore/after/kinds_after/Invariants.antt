use Rattle.bites_table.proofs.Library.{◌≡◌, length, Program}
use Rattle.bites_table.proofs.Words.{classes_of, TellsApart, AreAfter}
use Rattle.bites_table.proofs.explore.after.kinds_after.Given as goal

abbrev pub invariant-loop-class : goal.invariant-loop-class
invariant-loop-class l = record {
  after : (p : Program) → TellsApart p l.kinds → AreAfter p (classes_of l.classes) l.after.items;
  len : length l.after.items ≡ l.class;
}
