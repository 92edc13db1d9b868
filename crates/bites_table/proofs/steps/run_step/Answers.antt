use Rattle.bites_table.proofs.Library.{ℕ, Option, ◌<◌, ◌+◌, ◌*◌, Some, ap, sym, ◌∙◌, subst, arith, slice_set, set_past, row_in, common_steps}
use Rattle.bites_table.proofs.Words.{unwritten, write, source_at, with_spare, NamesRegisters, after_step, AreRows, Step}
use Rattle.bites_table.proofs.RowLemmas.{row-room, set-rows, blank-at, written-row, row-length, other-row}
use Rattle.bites_table.proofs.steps.run_step.Goals as goal
use Rattle.bites_table.proofs.TransitionLemmas.{write-at}

pub returns-in-Blank : goal.returns-in-Blank
returns-in-Blank c ss len registers rows =
    let to = c.in-Blank.to in
    let within : to < with_spare = subst NamesRegisters c.in-Blank.is c.requires.names in
    subst (λ (step : Step). AreRows registers c.args.width c.args.place (after_step step ss) c.blank_row.new.registers) (sym c.in-Blank.is)
    (set-rows registers c.args.registers.now c.blank_row.new.registers c.args.width c.args.place ss to unwritten len within
    (c.blank_row.ensures.blank ∙ sym (blank-at c.args.width c.args.place (row_in registers c.args.width)))
    c.blank_row.ensures.others rows)

pub returns-then-slot-width : goal.returns-then-slot-width
returns-then-slot-width c ss len registers rows =
    let to = c.in-Write.register in
    let slot = c.in-Write.slot in
    let old = c.args.registers.now in
    let new = slice_set old (to * c.args.width + slot) c.at.result in
    let within : to < with_spare = subst NamesRegisters c.in-Write.is c.requires.names in
    let room = row-room to with_spare c.args.width old within c.requires.room in
    subst (λ (step : Step). AreRows registers c.args.width c.args.place (after_step step ss) new) (sym c.in-Write.is)
    (set-rows registers old new c.args.width c.args.place ss to (write slot (source_at ss to)) len within
    (written-row old c.args.width to slot c.at.result room c.if-slot-width.true
    ∙ ap (λ (x : Option ℕ). slice_set (row_in old c.args.width to) slot x) c.at.ensures
    ∙ ap (λ row. slice_set row slot (Some c.args.place)) (rows to within)
    ∙ sym (write-at c.args.width c.args.place slot (row_in registers c.args.width) (source_at ss to)))
    (λ r lt ne. other-row old c.args.width to r slot c.at.result room (row-room r with_spare c.args.width old lt c.requires.room) c.if-slot-width.true ne) rows)

pub returns-else-slot-width : goal.returns-else-slot-width
returns-else-slot-width c ss len registers rows =
    let to = c.in-Write.register in
    let slot = c.in-Write.slot in
    let old = c.args.registers.now in
    let within : to < with_spare = subst NamesRegisters c.in-Write.is c.requires.names in
    let room = row-room to with_spare c.args.width old within c.requires.room in
    let short = row-length old c.args.width to room in
    grind (arith, common_steps, set-rows, set_past, write-at)
