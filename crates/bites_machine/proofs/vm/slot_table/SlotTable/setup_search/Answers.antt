use Rattle.bites_machine.proofs.Library.{row_fits, common_steps, None, ℕ, List, rules, ◌≡◌, ◌<◌, ◌∷◌, [], length, replicate, ap, sym, ◌∙◌, arith, slice_index, slice_index_or, length-replicate, rows_of, ref_counts_of}
use Rattle.bites_machine.proofs.tables.RowLemmas.{length-rows_of, first_row, filled}
use Rattle.bites_machine.proofs.tables.FreeLemmas.{first_left, length-ref_counts_of}
use Rattle.bites_machine.proofs.vm.slot_table.SlotTable.setup_search.Goals as goal
use Rattle.bites_machine.proofs.vm.slot_table.SlotTable.setup_search.Goals.{After-resize, After-truncate}

some : (c : After-truncate) → 0 < c.self.inside.row_count
some c = omega (arith, c.self.invariant.0.free.some, c.self.invariant.0.few)

left : (c : After-truncate) → c.truncate.new.self.items ≡ 0 ∷ []
left c = c.truncate.ensures.items ∙ first_left _ _ c.self.invariant.0.free

none_used : (row_count : ℕ) (counts : List ℕ) → counts ≡ 0 ∷ [] → (row : ℕ) → slice_index (ref_counts_of row_count counts) row ≡ 0
none_used row_count counts is row = grind (arith, common_steps)

-- if rows are as wide as in the search before
pub returns-then-slots_per_row-self-clause-set_up : goal.returns-then-slots_per_row-self-clause-set_up
returns-then-slots_per_row-self-clause-set_up c = grind (arith, common_steps, first_row, some, left, length-rows_of, length-ref_counts_of)

-- if they are not
written : (c : After-resize) → 0 < c.self.inside.row_count → c.resize.new.self.items ≡ replicate c.args.slots_per_row None
written c rows = grind (arith, row_fits, filled)

pub invariant_of-self-else-slots_per_row-self : goal.invariant_of-self-else-slots_per_row-self
invariant_of-self-else-slots_per_row-self c = grind (arith, common_steps, some, left, written, length-replicate)

pub returns-else-slots_per_row-self-clause-set_up : goal.returns-else-slots_per_row-self-clause-set_up
returns-else-slots_per_row-self-clause-set_up c = record {
  slots_per_row = search rules;
  nothing =
      let rows : 0 < c.self.inside.row_count = some (goal.at.returns-else-slots_per_row-self-clause-set_up c).After-truncate in
      ap (λ cells. slice_index_or (rows_of c.args.slots_per_row c.self.inside.row_count cells) 0 []) (written c rows)
      ∙ first_row c.args.slots_per_row c.self.inside.row_count rows;
  even =
      let left : c.truncate.new.self.items ≡ 0 ∷ [] = left (goal.at.returns-else-slots_per_row-self-clause-set_up c).After-truncate in
      length-rows_of c.args.slots_per_row c.self.inside.row_count _
      ∙ sym (length-ref_counts_of c.self.inside.row_count c.truncate.new.self.items (omega (arith, ap length left, c.self.invariant.0.free.some, c.self.invariant.0.few)));
  free = none_used c.self.inside.row_count c.truncate.new.self.items (left (goal.at.returns-else-slots_per_row-self-clause-set_up c).After-truncate);
}
