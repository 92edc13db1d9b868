use Rattle.bites_machine.proofs.Library.{common_steps, ◌<◌, length, arith, get_or_default}
use Rattle.bites_machine.proofs.tables.FreeLemmas.{count_more, taken_set}
use Rattle.bites_machine.proofs.vm.slot_table.SlotTable.retain.Goals as goal
use Rattle.bites_machine.proofs.vm.slot_table.SlotTable.retain.Goals.{After-index_mut}

known : (c : After-index_mut) → c.args.row < length c.self.inside.ref_counts.items
known c = grind (arith, common_steps)

pub invariant_of-self : goal.invariant_of-self
invariant_of-self c = grind (arith, common_steps, taken_set, known)

pub returns-then-row-ne0 : goal.returns-then-row-ne0
returns-then-row-ne0 c = grind (arith, common_steps, get_or_default, known, count_more)
