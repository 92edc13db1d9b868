use Rattle.bites_table.proofs.Library.{common_steps, arith}
use Rattle.bites_table.proofs.ExploreLemmas.{noted-more}
use Rattle.bites_table.proofs.explore.base.Base.note.Goals as goal

pub returns : goal.returns
returns c p g are is = grind (arith, common_steps, noted-more)
