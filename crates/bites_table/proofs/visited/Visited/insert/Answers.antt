use Rattle.bites_table.proofs.Library.{arith, common_steps}
use Rattle.bites_table.proofs.VisitedLemmas.{last_first, one_added}
use Rattle.bites_table.proofs.visited.Visited.insert.Goals as goal

pub invariant_of-self-2 : goal.invariant_of-self-2
invariant_of-self-2 c = grind (arith, common_steps, last_first, one_added)
