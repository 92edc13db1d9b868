use Rattle.bites_table.proofs.Library.{arith, common_steps}
use Rattle.bites_table.proofs.LaidOutLemmas.{clear}
use Rattle.bites_table.proofs.table.layout.is_clear.Goals as goal

pub returns : goal.returns
returns c is = grind (arith, common_steps, clear)
