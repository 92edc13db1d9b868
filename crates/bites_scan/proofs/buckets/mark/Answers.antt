use Rattle.std.proofs.Common.{w8, arith}
use Rattle.bites_scan.proofs.CellLemmas.{cell_set, cells_still_set}
use Rattle.bites_scan.proofs.buckets.mark.Goals as goal

pub returns-clause-set : goal.returns-clause-set
returns-clause-set c = cell_set w8 c.args.bucket c.requires.small c.args.cells.now c.args.at (omega arith)

pub returns-clause-stays : goal.returns-clause-stays
returns-clause-stays c = cells_still_set w8 c.args.bucket c.requires.small c.args.cells.now c.args.at (omega arith)
