use Rattle.bites_machine.proofs.Library.{row_fits, common_steps, arith}
use Rattle.bites_machine.proofs.tables.FreeLemmas.{is_taken}
use Rattle.bites_machine.proofs.tables.RowLemmas.{row_at}
use Rattle.bites_machine.proofs.vm.slot_table.SlotTable.write_row.Goals as goal

pub slice_bounds-copy_slots-end : goal.slice_bounds-copy_slots-end
slice_bounds-copy_slots-end c = grind (arith, is_taken, row_fits)

pub returns : goal.returns
returns c = grind (arith, common_steps, is_taken, row_at)
