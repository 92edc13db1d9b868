use Rattle.bites_table.proofs.Library.{common_steps, arith}
use Rattle.bites_table.proofs.TraceLemmas.{lead_on}
use Rattle.bites_table.proofs.trace.push.Goals as goal

pub returns : goal.returns
returns c = grind (arith, common_steps, lead_on)
