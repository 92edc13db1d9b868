use Rattle.bites_machine.proofs.Library.{arith, common_steps, map-set}
use Rattle.bites_machine.proofs.emit.States.put.Goals as goal

pub returns : goal.returns
returns c = grind (arith, common_steps, map-set)
