use Rattle.bites_table.proofs.Library.{common_steps, arith, length-map}
use Rattle.bites_table.proofs.StoredLemmas.{list-at}
use Rattle.bites_table.proofs.explore.graph.Graph.registers.Goals as goal
use Rattle.bites_table.proofs.GraphLemmas.{registers-there}

pub returns : goal.returns
returns c = grind (arith, common_steps, length-map, list-at c.self.inside.threads.items c.self.inside.lists.items c.args.number, registers-there)
