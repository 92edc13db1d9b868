use Rattle.bites_machine.proofs.Library.{common_steps, arith}
use Rattle.bites_machine.proofs.vm.state_set.StateSet.insert.Goals as goal

pub returns-then-index-self-clause-new : goal.returns-then-index-self-clause-new
returns-then-index-self-clause-new c = grind (arith, common_steps)
