use Rattle.bites_machine.proofs.Library.{common_steps, arith}
use Rattle.bites_machine.proofs.vm.traced.push_targets.Goals as goal

pub loop-number-preserved : goal.loop-number-preserved
loop-number-preserved c = grind (arith, common_steps)
