use Rattle.bites_table.proofs.Library.{◌≡◌, ◌<◌, ◌≤◌, ◌+◌, ℕ, length, into_iter_items, into_iter_len}
use Rattle.std.specs.Vec.{vec_len, vec_capacity}
use Rattle.bites_table.proofs.Words.{Packed, Fits, AreLaid}
use Rattle.bites_table.proofs.table.layout.push_cells.Given as goal

abbrev pub invariant-loop : goal.invariant-loop
invariant-loop l = record {
  len : into_iter_len l.left ≡ length (into_iter_items l.left);
  room : vec_len l.cells + l.count ≤ vec_capacity l.cells + l.counter;
  row : (x : Packed) (stride n : ℕ) → l.count < x.graph.classes → Fits x l.names stride →
      AreLaid x n 0 (into_iter_items l.fn.left) l.fn.cells.items → AreLaid x n l.counter (into_iter_items l.left) l.cells.items;
}
