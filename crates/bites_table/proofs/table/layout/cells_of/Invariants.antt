use Rattle.bites_table.proofs.Library.{◌≡◌, length, into_iter_items, into_iter_len}
use Rattle.bites_table.proofs.Words.{Packed, Fits, AreLaid}
use Rattle.bites_table.proofs.table.layout.cells_of.Given as goal

abbrev pub invariant-loop-number : goal.invariant-loop-number
invariant-loop-number l = record {
  len : into_iter_len l.left ≡ length (into_iter_items l.left);
  rows : (x : Packed) → x.graph ≡ l.fn.graph → Fits x l.names l.stride → AreLaid x l.number 0 (into_iter_items l.left) l.cells.items;
}
