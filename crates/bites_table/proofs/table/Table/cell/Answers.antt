use Rattle.bites_table.proofs.Library.{◌≡◌, ℕ, ◌+◌, ◌-◌, List, length, get_or, drop, length-drop, take, ap, ◌∙◌, arith, get_or-drop, take_all}
use Rattle.bites_table.specs.declared.table.cell.Cell.{Cell}
use Rattle.bites_table.proofs.LayoutLemmas.{cells-tell, own-cells}
use Rattle.bites_table.proofs.table.Table.cell.Goals as goal

-- what is left from a class on
rest : (cells : List Cell) (n : ℕ) → take (length cells - n) (drop n cells) ≡ drop n cells
rest cells n = take_all (length cells - n) (drop n cells) (omega (arith, length-drop n cells))

pub returns : goal.returns
returns c =
    let x = c.args.self.now in
    let cells = c.args.cells.now in
    let cell = c.index-column-row.result in
    cells-tell x c.args.row c.requires.row cells (own-cells _ x cells c.self.view_is c.requires.cells c.self.invariant.cells) c.args.class cell c.requires.class
    (c.index-column-row.is ∙ ap (λ (l : List Cell). get_or l c.args.row cell) (rest cells c.args.class)
    ∙ get_or-drop c.args.class cells c.args.row cell ∙ ap (λ k. get_or cells k cell) (turned c.args.class c.args.row))
  where
    turned : (n m : ℕ) → n + m ≡ m + n
    turned n m = omega arith
