use Rattle.bites_table.proofs.Library.{common_steps, arith, length-map, length}
use Rattle.bites_table.proofs.StoredLemmas.{part-at, list-at}
use Rattle.bites_table.proofs.explore.graph.Graph.list.Goals as goal
use Rattle.bites_table.proofs.GraphLemmas.{registers-there}
use Rattle.bites_table.proofs.Words.{StoredList}

pub part_of-requires : goal.part_of-requires
part_of-requires c = grind (arith, common_steps, length-map, part-at (λ (l : StoredList). l.threads) (length c.self.inside.threads.items) c.self.inside.lists.items)

pub returns : goal.returns
returns c = grind (arith, common_steps, length-map, list-at, registers-there)
