use Rattle.bites_table.proofs.Library.{common_steps, arith}
use Rattle.bites_table.proofs.registers.register_of.Goals as goal

pub returns-then-eq-clause-is : goal.returns-then-eq-clause-is
returns-then-eq-clause-is c = grind (arith, common_steps)
