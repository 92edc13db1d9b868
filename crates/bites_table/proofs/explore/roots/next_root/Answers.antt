use Rattle.bites_table.proofs.StepLemmas.{if_some}
use Rattle.bites_table.proofs.GraphLemmas.{grows-refl}
use Rattle.bites_table.proofs.explore.roots.next_root.Goals as goal

pub returns-clause-root : goal.returns-clause-root
returns-clause-root c = if_some (λ n root p tells before. root p tells) c.add_root.result c.add_root.ensures.root

pub returns-then-eq-clause-grows : goal.returns-then-eq-clause-grows
returns-then-eq-clause-grows c = grows-refl c.args.graph.now
