use Rattle.bites_machine.proofs.Library.{common_steps, arith, set-set}
use Rattle.bites_machine.proofs.vm.slot_table.SlotTable.load.Goals as goal

pub returns : goal.returns
returns c = grind (arith, common_steps, set-set)
