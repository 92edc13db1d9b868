use Rattle.bites_machine.proofs.Library.{row_fits, common_steps, ◌≡◌, ◌<◌, ◌≤◌, ◌+◌, ◌*◌, length, take, drop, sym, ap, ◌∙◌, ◌++◌, arith}
use Rattle.bites_machine.proofs.tables.RowLemmas.{row_written}
use Rattle.bites_machine.proofs.tables.FreeLemmas.{first_stays}
use Rattle.bites_machine.proofs.vm.slot_table.SlotTable.overwrite.Goals as goal
use Rattle.bites_machine.proofs.vm.slot_table.SlotTable.overwrite.Goals.{After-deref_mut, After-overwrite_row}

known : (c : After-deref_mut) → c.args.row < length c.self.inside.ref_counts.items
known c = grind (arith, common_steps)

wide : (c : After-deref_mut) → length c.args.slots.now ≡ c.self.inside.slots_per_row
wide c = c.requires.slots_per_row ∙ sym (ap (λ p. p.slots_per_row) c.self.view_is)

fits : (c : After-deref_mut) → c.args.row * c.self.inside.slots_per_row + c.self.inside.slots_per_row ≤ length c.self.inside.slots.items
fits c = grind (arith, common_steps, row_fits)

pub overflow_mul-row : goal.overflow_mul-row
overflow_mul-row c = omega (arith, fits (goal.at.overflow_mul-row c).After-deref_mut, c.self.inside.slots.ok.0)

pub overwrite_row-requires : goal.overwrite_row-requires
overwrite_row-requires c = grind (arith, common_steps, fits, wide)

same : (c : After-overwrite_row) → take c.self.inside.slots.len (c.overwrite_row.new.slots ++ drop (length c.overwrite_row.new.slots) c.self.inside.slots.items) ≡ c.overwrite_row.new.slots
same c = grind (arith, common_steps)

pub invariant_of-self : goal.invariant_of-self
invariant_of-self c =
    let len : length c.overwrite_row.new.slots ≡ length c.self.inside.slots.items = c.overwrite_row.auto.slots ∙ ap length c.deref_mut.ensures.value in
    rw (same (goal.at.invariant_of-self c).After-overwrite_row) (
      record {
        free = c.self.invariant.0.free;
        few = c.self.invariant.0.few;
        slots = len ∙ c.self.invariant.0.slots;
        wide = c.self.invariant.0.wide;
        first = first_stays c.self.inside.row_count c.self.inside.slots_per_row c.self.inside.max_slots c.args.row c.self.inside.slots.items _ _ _ _ _
            c.self.invariant.0 c.deref_mut.ensures.value c.requires.other (omega (arith, fits (goal.at.invariant_of-self c).After-deref_mut)) c.overwrite_row.ensures;
      },
      c.self.invariant.1,
      c.self.invariant.2,
      c.self.invariant.3,
    )

pub returns : goal.returns
returns c = grind (arith, common_steps, same, row_written, fits)
