use Rattle.bites_table.proofs.Library.{arith, get_or_default, length-set, common_steps}
use Rattle.bites_table.proofs.RowLemmas.{row-room, copied-two, two-others}
use Rattle.bites_table.proofs.steps.copy_two.Goals as goal

pub returns-clause-copied : goal.returns-clause-copied
returns-clause-copied c = grind (arith, common_steps, row-room, length-set, copied-two, get_or_default)

pub returns-clause-others : goal.returns-clause-others
returns-clause-others c r lt ne = grind (arith, common_steps, two-others, row-room)
