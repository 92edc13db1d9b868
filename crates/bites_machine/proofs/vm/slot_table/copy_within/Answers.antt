use Rattle.bites_machine.proofs.Library.{common_steps, arith}
use Rattle.bites_machine.proofs.tables.RowLemmas.{copied_more}
use Rattle.bites_machine.proofs.vm.slot_table.copy_within.Goals as goal

pub loop-k-preserved : goal.loop-k-preserved
loop-k-preserved c = grind (arith, common_steps, copied_more)
