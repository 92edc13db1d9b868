use Rattle.bites_table.proofs.Library.{common_steps, arith, length-map}
use Rattle.bites_table.proofs.StoredLemmas.{unknown}
use Rattle.bites_table.proofs.explore.graph.Graph.add_row.Goals as goal

pub returns-in_err-ok : goal.returns-in_err-ok
returns-in_err-ok c = grind (arith, common_steps, unknown)

pub returns : goal.returns
returns c = grind (arith, common_steps, unknown, length-map)
