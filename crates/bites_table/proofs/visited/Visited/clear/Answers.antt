use Rattle.bites_table.proofs.Library.{common_steps, arith}
use Rattle.bites_table.proofs.VisitedLemmas.{first_known, one_removed, last_first}
use Rattle.bites_table.proofs.visited.Visited.clear.Goals as goal

pub index_mut-requires : goal.index_mut-requires
index_mut-requires c = grind (arith, common_steps, last_first, first_known)

pub loop-state-preserved : goal.loop-state-preserved
loop-state-preserved c = grind (arith, common_steps, last_first, one_removed)
