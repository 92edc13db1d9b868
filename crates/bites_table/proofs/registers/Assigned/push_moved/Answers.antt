use Rattle.bites_table.proofs.Library.{common_steps, arith, append_assoc, get_or_default}
use Rattle.bites_table.proofs.RegisterLemmas.{moved-next}
use Rattle.bites_table.proofs.registers.Assigned.push_moved.Goals as goal

pub loop-thread-preserved : goal.loop-thread-preserved
loop-thread-preserved c ts are = grind (arith, common_steps, append_assoc, moved-next, get_or_default)
