use Rattle.bites_table.proofs.Library.{◌≡◌, cond, zero-add, slice_index_or, length, Some, None, sym, ap, ◌∙◌, arith, row_in, ext_get_or}
use Rattle.bites_table.proofs.Words.{row_at, source_of, slots_from}
use Rattle.bites_table.proofs.RowLemmas.{slots-at, row-at-length, some-room}
use Rattle.bites_table.proofs.steps.write_slots.Goals as goal

pub returns : goal.returns
returns c =
    let width = length c.args.slots.now in
    let place = c.args.place in
    let s = source_of c.args.source.now in
    let room = some-room c.args.source.now.register width c.args.registers.now c.requires.register in
    let base = c.read_row.new.slots in
    let written = c.write_places.ensures in
    let row : row_at width place (row_in c.args.registers.now width) s ≡ slots_from place s.writes 0 base = ap (slots_from place s.writes 0) (sym c.read_row.ensures) in
    let wide : length (slots_from place s.writes 0 base) ≡ width = ap length (sym row) ∙ row-at-length width place c.args.registers.now s room in
    let len : length c.write_places.new.slots ≡ width = written.len ∙ c.read_row.auto.slots in
    ext_get_or None c.write_places.new.slots (slots_from place s.writes 0 base) (len ∙ sym wide)
    (λ k lt. written.slots k (omega arith) ∙ ap (λ n. cond (s.writes n) (Some place) (slice_index_or base k None)) (sym (zero-add k)) ∙ sym (slots-at place s.writes 0 base k None (omega arith)))
    ∙ sym row
