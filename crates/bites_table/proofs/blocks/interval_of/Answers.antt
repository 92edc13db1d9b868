use Rattle.bites_table.proofs.Library.{common_steps, arith}
use Rattle.bites_table.proofs.BlockLemmas.{rises}
use Rattle.bites_table.proofs.blocks.interval_of.Goals as goal

pub loop-high-preserved : goal.loop-high-preserved
loop-high-preserved c = grind (arith, common_steps, rises)
