use Rattle.bites_machine.proofs.Library.{row_fits, common_steps, ◌≡◌, ◌≢◌, ◌<◌, ◌≤◌, ◌+◌, ◌*◌, ◌⊎◌, [], ◌∷◌, length, take, drop, arith, ap, sym, ◌∙◌, ◌++◌, subst, ℕ, List, vec_len, length-drop, slice_index, length-set, length-take-le, nil_from_length, AreFree, AreTaken, with_pending, nat_tests}
use Rattle.bites_machine.proofs.tables.RowLemmas.{rows_apart, length-with_pending, row_copied, row_pushed}
use Rattle.bites_machine.proofs.tables.FreeLemmas.{taken, taken_more, some_left, last_free, first_stays, count_at, count_set, count_pushed, length-ref_counts_of}
use Rattle.bites_machine.proofs.vm.slot_table.SlotTable.copy.Goals as goal
use Rattle.bites_machine.proofs.vm.slot_table.SlotTable.copy.Goals.{After-copy_row, After-pop, After-push, After-push_row, In-Some, In_default}

known : (c : After-pop) → c.args.row < length c.self.inside.ref_counts.items
known c = grind (arith, common_steps)

none_left : (c : In_default) → c.pop.new.self.items ≡ []
none_left c = nil_from_length c.pop.new.self.items (omega (arith, c.in_default.ensures.cases.1, c.pop.new.self.ok.0))

are_taken : (c : In_default) → AreTaken c.self.inside.row_count c.self.inside.slots_per_row c.self.inside.max_slots c.self.inside.slots.items c.self.inside.ref_counts.items []
are_taken c = grind (arith, common_steps)

few : (c : In_default) → length c.self.inside.ref_counts.items < c.self.inside.row_count
few c = grind (arith, common_steps, some_left, are_taken)

pushed : (c : After-push) → length c.self.inside.ref_counts.items < c.self.inside.row_count → c.push.new.self.items ≡ c.self.inside.ref_counts.items ++ 1 ∷ []
pushed c lt = grind (arith, common_steps, vec_len)

fresh_is : (c : After-push) → c.len-fresh.result ≡ length c.self.inside.ref_counts.items
fresh_is c = c.len-fresh.ensures ∙ c.self.inside.ref_counts.ok.0

pub push_row-requires-clause-from : goal.push_row-requires-clause-from
push_row-requires-clause-from c = grind (arith, common_steps, row_fits, known)

pub push_row-requires-clause-room : goal.push_row-requires-clause-room
push_row-requires-clause-room c = grind (arith, row_fits, few)

length-more : (c : After-push_row) → c.args.row < length c.self.inside.ref_counts.items →
    length (with_pending c.args.place (take c.args.pending_len c.self.inside.pending.items) (take c.self.inside.slots_per_row (drop (c.args.row * c.self.inside.slots_per_row) c.self.inside.slots.items))) ≡ c.self.inside.slots_per_row
length-more c lt = grind (arith, row_fits, length-with_pending, length-take-le, length-drop)

cells_are : (c : After-push_row) → c.push_row.new.slots.items ≡ c.self.inside.slots.items
    ++ with_pending c.args.place (take c.args.pending_len c.self.inside.pending.items) (take c.self.inside.slots_per_row (drop (c.args.row * c.self.inside.slots_per_row) c.self.inside.slots.items))
cells_are c = grind arith

pub invariant_of-self : goal.invariant_of-self
invariant_of-self c = search (arith, cells_are, pushed, few, none_left, taken_more, are_taken, length-more, known)

past_end : (counts : List ℕ) → slice_index counts (length counts) ≡ 0
past_end h = grind (arith, common_steps)

pub returns-in_default : goal.returns-in_default
returns-in_default c = grind (arith, common_steps, known, few, fresh_is, length-ref_counts_of, count_at, past_end, cells_are, row_pushed, pushed, count_pushed)

-- where the last row that lost its users is taken
mine : (c : In-Some) → (c.in-Some.fresh < length c.self.inside.ref_counts.items) × (c.in-Some.fresh ≢ 0) × (slice_index c.self.inside.ref_counts.items c.in-Some.fresh ≡ 0)
mine c = last_free _ _ c.in-Some.fresh _ c.in-Some.ensures.items c.self.invariant.0.free

fits : (c : In-Some) → c.in-Some.fresh * c.self.inside.slots_per_row + c.self.inside.slots_per_row ≤ length c.self.inside.slots.items
fits c = grind (arith, common_steps, row_fits, mine)

pub index_mut-requires : goal.index_mut-requires
index_mut-requires c = omega (arith, (mine (goal.at.index_mut-requires c).In-Some).0, c.self.inside.ref_counts.ok.0)

pub overflow_mul-to : goal.overflow_mul-to
overflow_mul-to c = omega (arith, fits (goal.at.overflow_mul-to c).In-Some, c.self.inside.slots.ok.0)

pub copy_row-requires-clause-pending : goal.copy_row-requires-clause-pending
copy_row-requires-clause-pending c k lt = grind (arith, common_steps, length-take-le)

pub copy_row-requires-clause-moved : goal.copy_row-requires-clause-moved
copy_row-requires-clause-moved c = grind (arith, row_fits, known, count_at, fits, rows_meet, mine)
  where
    rows_meet : (ref_counts : List ℕ) (w row fresh : ℕ) → (row ≢ 0 → 0 < slice_index ref_counts row) → fresh ≢ 0 → slice_index ref_counts fresh ≡ 0 →
        (row * w + w ≤ fresh * w) ⊎ (fresh * w + w ≤ row * w)
    rows_meet ref_counts w row fresh used other none = grind (arith, rows_apart)

same : (c : After-copy_row) → take c.self.inside.slots.len (c.copy_row.new.slots ++ drop (length c.copy_row.new.slots) c.self.inside.slots.items) ≡ c.copy_row.new.slots
same c = grind (arith, common_steps)

pub invariant_of-self-2 : goal.invariant_of-self-2
invariant_of-self-2 c =
    let free : AreFree (c.pop.new.self.items ++ c.in-Some.fresh ∷ []) c.self.inside.ref_counts.items = grind (arith, common_steps) in
    let len : length c.copy_row.new.slots ≡ length c.self.inside.slots.items = c.copy_row.auto.slots ∙ ap length c.deref_mut.ensures.value in
    rw (same (goal.at.invariant_of-self-2 c).After-copy_row) (
      record {
        free = taken c.pop.new.self.items c.self.inside.ref_counts.items c.in-Some.fresh free;
        few = subst (λ n. n ≤ c.self.inside.row_count) (sym (length-set _ _ _)) c.self.invariant.0.few;
        slots = len ∙ c.self.invariant.0.slots ∙ ap (λ n. n * c.self.inside.slots_per_row) (sym (length-set _ _ _));
        wide = c.self.invariant.0.wide;
        first = first_stays c.self.inside.row_count c.self.inside.slots_per_row c.self.inside.max_slots c.in-Some.fresh c.self.inside.slots.items _ _ _ _ _
            c.self.invariant.0 c.deref_mut.ensures.value (mine (goal.at.invariant_of-self-2 c).In-Some).1 (omega (arith, fits (goal.at.invariant_of-self-2 c).In-Some)) c.copy_row.ensures;
      },
      c.self.invariant.1,
      c.self.invariant.2,
      omega (arith, c.self.invariant.3, c.pop.ensures.capacity),
    )

pub returns : goal.returns
returns c = grind (arith, nat_tests, known, mine, length-ref_counts_of, count_at, same, row_copied, count_set)
