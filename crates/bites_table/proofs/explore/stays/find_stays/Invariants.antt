use Rattle.std.proofs.Common.{◌≡◌, length}
use Rattle.bites_table.proofs.Words.{table_of, classes_in, AreStays}
use Rattle.bites_table.proofs.explore.stays.find_stays.Given as goal

abbrev pub invariant-loop-number : goal.invariant-loop-number
invariant-loop-number l = record {
  len : length l.stays.lists.items ≡ l.number;
  stays : AreStays (table_of l.graph) (classes_in l.context) l.stays.skips.items l.stays.lists.items;
}
