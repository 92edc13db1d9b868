use Rattle.bites_table.proofs.Library.{rules, ◌≡◌, ◌+◌, ◌*◌, ◌<◌, suc, List, [], ◌∷◌, ◌++◌, option_map, sym, subst, arith, into_iter_items}
use Rattle.bites_table.proofs.Words.{cell_of, stride, AreLaid}
use Rattle.bites_table.specs.declared.table.cell.Cell.{Cell}
use Rattle.bites_table.proofs.LaidOutLemmas.{laid-more, laid-row, cell-there}
use Rattle.bites_table.proofs.table.layout.push_row.Goals as goal
use Rattle.bites_table.proofs.table.layout.push_row.Goals.{in-None+in_ok-push_cells-in-None, in-Some+in_ok-push_cells-in-Some}

pub returns-clause-row : goal.returns-clause-row
returns-clause-row c x w n same fits first =
    let k = c.in_ok-before_end.before_end in
    let count = fits.classes in
    let all : suc k ≡ x.graph.classes = omega (arith, same, c.in_ok-before_end.ensures) in
    let lt : k < x.graph.classes = omega arith in
    let laid : AreLaid x n k (into_iter_items c.match-skips.left) c.match-skips.cells.items =
    elim c.match-skips.branch [
      | in-None+in_ok-push_cells-in-None b ↦ rw (b.cells-is, b.left-is) (b.in_ok-push_cells-in-None.ensures.row x w n lt fits first)
      | in-Some+in_ok-push_cells-in-Some b ↦ rw (b.cells-is, b.left-is) (b.in_ok-push_cells-in-Some.ensures.row x w n lt fits first)
    ] in
    let next = c.next_cell-end.ensures.next x.graph.cells (n * x.graph.classes + k) laid.left_is in
    let within : k < stride x = omega arith in
    let tell = c.packed.ensures x w n k fits (cell-there x.graph n k (option_map cell_of c.next_cell-end.result) lt next.0) in
    let pushed : c.push.new.self.items ≡ c.match-skips.cells.items ++ c.packed.result ∷ [] = search rules in
    let pushed-2 : c.push-2.new.self.items ≡ c.push.new.self.items ++ c.unknown.result ∷ [] = search rules in
    let at_end : AreLaid x n (k + 1) (into_iter_items c.next_cell-end.new.left) c.push.new.self.items =
    subst (λ (l : List Cell). AreLaid x n (k + 1) (into_iter_items c.next_cell-end.new.left) l) (sym pushed)
    (laid-more x n k (into_iter_items c.match-skips.left) c.match-skips.cells.items laid c.packed.result within tell (into_iter_items c.next_cell-end.new.left) next.1) in
    let end : suc (k + 1) ≡ stride x = omega arith in
    let last : k + 1 < stride x = omega arith in
    let whole : k + 1 ≡ x.graph.classes = omega arith in
    subst (λ (l : List Cell). AreLaid x (suc n) 0 (into_iter_items c.next_cell-end.new.left) l) (sym pushed-2)
    (laid-row x n (k + 1) (into_iter_items c.next_cell-end.new.left) c.push.new.self.items at_end c.unknown.result last (c.unknown.ensures x n (k + 1)) end whole)
