use Rattle.bites_machine.proofs.Library.{common_steps, arith, length-left}
use Rattle.bites_machine.proofs.compiler.compile.Goals as goal

pub with_names-requires : goal.with_names-requires
with_names-requires c = grind (arith, common_steps, length-left)

pub returns-clause-slots : goal.returns-clause-slots
returns-clause-slots c = grind (arith, common_steps, length-left)

pub returns-in_err-states-clause-refused : goal.returns-in_err-states-clause-refused
returns-in_err-states-clause-refused c = grind (arith, common_steps, length-left)

pub returns-in_err-names-clause-refused : goal.returns-in_err-names-clause-refused
returns-in_err-names-clause-refused c = grind (arith, common_steps, length-left)

pub returns-clause-limits : goal.returns-clause-limits
returns-clause-limits c = grind (arith, common_steps, length-left)

pub returns-clause-refused : goal.returns-clause-refused
returns-clause-refused c = grind (arith, common_steps, length-left)
