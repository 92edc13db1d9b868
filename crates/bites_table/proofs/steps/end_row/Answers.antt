use Rattle.bites_table.proofs.Library.{common_steps, arith}
use Rattle.bites_table.proofs.RowLemmas.{two-set}
use Rattle.bites_table.proofs.steps.end_row.Goals as goal

pub returns : goal.returns
returns c = grind (arith, common_steps, two-set)
