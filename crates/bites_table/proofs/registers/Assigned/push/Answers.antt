use Rattle.bites_table.proofs.Library.{common_steps, arith}
use Rattle.bites_table.proofs.RegisterLemmas.{one_assigned}
use Rattle.bites_table.proofs.registers.Assigned.push.Goals as goal

pub returns : goal.returns
returns c ts are = grind (arith, common_steps, one_assigned)
