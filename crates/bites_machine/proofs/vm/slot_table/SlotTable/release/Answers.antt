use Rattle.bites_machine.proofs.Library.{common_steps, ◌≡◌, ◌<◌, ◌-◌, ◌∷◌, ◌++◌, [], length, arith, slice_index, slice_set}
use Rattle.bites_machine.proofs.tables.FreeLemmas.{count_at, count_less, taken_set, freed}
use Rattle.bites_machine.proofs.vm.slot_table.SlotTable.release.Goals as goal
use Rattle.bites_machine.proofs.vm.slot_table.SlotTable.release.Goals.{After-index_mut}

known : (c : After-index_mut) → c.args.row < length c.self.inside.ref_counts.items
known c = grind (arith, common_steps)

used : (c : After-index_mut) → 0 < slice_index c.self.inside.ref_counts.items c.args.row
used c = grind (arith, common_steps, count_at)

push_items : (c : goal.After-push) → c.push.new.self.items ≡ c.self.inside.free.items ++ c.args.row ∷ []
push_items c = grind (arith, common_steps)

pub invariant_of-self : goal.invariant_of-self
invariant_of-self c =
    let count : slice_set c.self.inside.ref_counts.items c.args.row (c.index.result.now - 1) ≡ slice_set c.self.inside.ref_counts.items c.args.row 0 = grind (arith, common_steps) in
    rw (count, push_items c) (
      taken_set c.self.inside.row_count c.self.inside.slots_per_row c.self.inside.max_slots c.args.row 0 _ _ _ _ c.self.invariant.0
          (freed _ _ _ c.self.invariant.0.free (known (goal.at.invariant_of-self c).After-index_mut) c.if-row-eq0.false (used (goal.at.invariant_of-self c).After-index_mut)),
      c.self.invariant.1,
      c.self.invariant.2,
      omega (arith, c.self.invariant.3, c.push.ensures.capacity),
    )

pub invariant_of-self-else-count-eq0 : goal.invariant_of-self-else-count-eq0
invariant_of-self-else-count-eq0 c = grind (arith, common_steps, taken_set, known)

pub returns-then-count-eq0 : goal.returns-then-count-eq0
returns-then-count-eq0 c = grind (arith, common_steps, count_less, known)

pub returns-else-count-eq0 : goal.returns-else-count-eq0
returns-else-count-eq0 c = grind (arith, common_steps, count_less, known)
