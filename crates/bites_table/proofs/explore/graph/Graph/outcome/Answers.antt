use Rattle.bites_table.proofs.Library.{common_steps, arith, length-map, length}
use Rattle.bites_table.proofs.StoredLemmas.{part-at, outcome-at}
use Rattle.bites_table.proofs.explore.graph.Graph.outcome.Goals as goal
use Rattle.bites_table.proofs.Words.{StoredOutcome}

pub part_of-requires : goal.part_of-requires
part_of-requires c = grind (arith, common_steps, length-map, part-at (λ (o : StoredOutcome). o.moves) (length c.self.inside.moves.items) c.self.inside.outcomes.items)

pub returns : goal.returns
returns c = grind (arith, common_steps, length-map, outcome-at)
