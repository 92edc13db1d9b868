use Rattle.std.proofs.Common.{length-append}
use Rattle.bites_table.proofs.StayLemmas.{stays-push}
use Rattle.bites_table.proofs.explore.stays.find_stays.Goals as goal
use Rattle.bites_table.proofs.Library.{arith, common_steps}

pub loop-number-preserved : goal.loop-number-preserved
loop-number-preserved c = grind (arith, common_steps, length-append, stays-push)
