use Rattle.bites_table.proofs.Library.{common_steps, arith}
use Rattle.bites_table.proofs.VisitedLemmas.{apart_of}
use Rattle.bites_table.proofs.visited.Visited.is_apart.Goals as goal

pub returns : goal.returns
returns c is = grind (arith, common_steps, apart_of)
