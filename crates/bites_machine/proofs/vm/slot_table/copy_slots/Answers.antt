use Rattle.bites_machine.proofs.Library.{arith}
use Rattle.bites_machine.proofs.tables.RowLemmas.{read_more}
use Rattle.bites_machine.proofs.vm.slot_table.copy_slots.Goals as goal

pub loop-k-preserved : goal.loop-k-preserved
loop-k-preserved c = search (arith, read_more)
