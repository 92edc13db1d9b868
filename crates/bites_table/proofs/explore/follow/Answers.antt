use Rattle.bites_table.proofs.GraphLemmas.{grows-refl}
use Rattle.bites_table.proofs.explore.follow.Goals as goal

pub loop-number-init : goal.loop-number-init
loop-number-init c = record { making = c.requires; grows = grows-refl c.args.graph.now }
