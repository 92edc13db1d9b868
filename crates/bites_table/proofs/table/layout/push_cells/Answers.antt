use Rattle.bites_table.proofs.Library.{rules, ◌≡◌, ◌+◌, ◌*◌, ◌<◌, List, [], ◌∷◌, ◌++◌, option_map, sym, subst, arith, into_iter_items}
use Rattle.bites_table.proofs.Words.{cell_of, stride, AreLaid}
use Rattle.bites_table.specs.declared.table.cell.Cell.{Cell}
use Rattle.bites_table.proofs.LaidOutLemmas.{laid-more, cell-there}
use Rattle.bites_table.proofs.table.layout.push_cells.Goals as goal

pub loop-preserved : goal.loop-preserved
loop-preserved c = record {
  len = c.next_cell-cell.ensures.len;
  room = let before = c.loop.invariant.room in let len = c.push_reserved.ensures.len in let same = c.push_reserved.ensures.capacity in omega arith;
  row = λ x w n few fits first.
      let k = c.loop.counter in
      let laid = c.loop.invariant.row x w n few fits first in
      let count = fits.classes in
      let lt : k < x.graph.classes = omega arith in
      let within : k < stride x = omega arith in
      let next = c.next_cell-cell.ensures.next x.graph.cells (n * x.graph.classes + k) laid.left_is in
      let tell = c.packed.ensures x w n k fits (cell-there x.graph n k (option_map cell_of c.next_cell-cell.result) lt next.0) in
      let pushed : c.push_reserved.new.self.items ≡ c.loop.cells.items ++ c.packed.result ∷ [] = search rules in
      subst (λ (l : List Cell). AreLaid x n (k + 1) (into_iter_items c.next_cell-cell.new.left) l) (sym pushed)
      (laid-more x n k (into_iter_items c.loop.left) c.loop.cells.items laid c.packed.result within tell (into_iter_items c.next_cell-cell.new.left) next.1);
}

pub returns-clause-row : goal.returns-clause-row
returns-clause-row c x w n few fits first =
    let all : c.loop.counter ≡ c.args.count = search rules in
    subst (λ k. AreLaid x n k (into_iter_items c.loop.left) c.loop.cells.items) all (c.loop.invariant.row x w n few fits first)
