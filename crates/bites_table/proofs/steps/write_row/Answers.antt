use Rattle.bites_table.proofs.Library.{◌≡◌, length, ◌∙◌, arith, rules, row_in}
use Rattle.bites_table.proofs.Words.{row_at, source_of}
use Rattle.bites_table.proofs.RowLemmas.{slot-is, row-at-length, some-room, two-set}
use Rattle.bites_table.proofs.steps.write_row.Goals as goal

pub returns-then-width-eq2 : goal.returns-then-width-eq2
returns-then-width-eq2 c =
    let width = length c.args.slots.now in
    let registers = c.args.registers.now in
    let s = source_of c.args.source.now in
    let place = c.args.place in
    let room = some-room c.args.source.now.register width registers c.requires.register in
    let two : width ≡ 2 = search rules in
    two-set c.args.slots.now c.slot_at.result c.slot_at-then-width-eq2.result (row_at width place (row_in registers width) s) two (row-at-length width place registers s room ∙ two)
    (slot-is c.slot_at.result c.has_written.result width place 0 registers s (omega arith) room c.has_written.ensures c.slot_at.ensures)
    (slot-is c.slot_at-then-width-eq2.result c.has_written-then-width-eq2.result width place 1 registers s (omega arith) room c.has_written-then-width-eq2.ensures c.slot_at-then-width-eq2.ensures)
