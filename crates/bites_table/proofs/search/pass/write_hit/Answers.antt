use Rattle.bites_table.proofs.Library.{common_steps, arith}
use Rattle.bites_table.proofs.SearchesLemmas.{row_there}
use Rattle.bites_table.proofs.search.pass.write_hit.Goals as goal

pub write_row-requires : goal.write_row-requires
write_row-requires c = grind (arith, common_steps, row_there)
