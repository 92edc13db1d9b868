use Rattle.bites_table.proofs.Library.{common_steps, arith}
use Rattle.bites_table.proofs.LayoutLemmas.{among-range}
use Rattle.bites_table.proofs.table.Table.steps.Goals as goal

pub returns-clause-names : goal.returns-clause-names
returns-clause-names c s is = grind (arith, common_steps, among-range)
