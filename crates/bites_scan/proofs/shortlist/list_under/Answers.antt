use Rattle.std.proofs.Common.{w64, arith}
use Rattle.bites_scan.proofs.CellLemmas.{cell_set, cells_still_set}
use Rattle.bites_scan.proofs.shortlist.list_under.Goals as goal

pub returns-clause-listed : goal.returns-clause-listed
returns-clause-listed c = cell_set w64 c.args.number c.requires.small c.args.by_hash.now c.args.hash (omega arith)

pub returns-clause-kept : goal.returns-clause-kept
returns-clause-kept c = cells_still_set w64 c.args.number c.requires.small c.args.by_hash.now c.args.hash (omega arith)
