use Rattle.bites_table.proofs.Library.{common_steps, arith}
use Rattle.bites_table.proofs.RowLemmas.{names-more}
use Rattle.bites_table.proofs.table.sequence.push_steps.Goals as goal

pub returns-clause-names : goal.returns-clause-names
returns-clause-names c before = grind (arith, common_steps, names-more)
