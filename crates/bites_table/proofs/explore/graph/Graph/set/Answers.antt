use Rattle.bites_table.proofs.Library.{common_steps, arith, map-set}
use Rattle.bites_table.proofs.explore.graph.Graph.set.Goals as goal

pub returns : goal.returns
returns c = grind (arith, common_steps, map-set)
