use Rattle.bites_table.proofs.Library.{nil_from_length, arith, common_steps}
use Rattle.bites_table.proofs.LaidOutLemmas.{left-more, left-none}
use Rattle.bites_table.proofs.table.layout.next_cell.Goals as goal

pub returns-in-Some-clause-next : goal.returns-in-Some-clause-next
returns-in-Some-clause-next c cells k e = grind (arith, common_steps, left-more)

pub returns-in-None-clause-next : goal.returns-in-None-clause-next
returns-in-None-clause-next c cells k e = grind (arith, common_steps, nil_from_length, left-none)
