use Rattle.bites_table.proofs.Library.{◌≡◌, ◌+◌, suc, ◌∙◌, ap, sym, subst, arith, into_iter_items}
use Rattle.bites_table.proofs.Words.{Graph, AreLaid}
use Rattle.bites_table.proofs.table.layout.cells_of.Goals as goal

pub loop-number-preserved : goal.loop-number-preserved
loop-number-preserved c = record {
  len = c.in_ok-push_row.ensures.len;
  rows = λ x same fits.
      let classes = ap (λ (g : Graph). g.classes) same ∙ sym c.classes-classes.ensures in
      let next : suc c.loop-number.number ≡ c.loop-number.number + 1 = omega arith in
      subst (λ n. AreLaid x n 0 (into_iter_items c.push_row.new.left) c.push_row.new.cells.items) next
      (c.in_ok-push_row.ensures.row x c.args.stride c.loop-number.number classes fits (c.loop-number.invariant.rows x same fits));
}
