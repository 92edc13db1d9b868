use Rattle.std.proofs.Common.{◌/◌, ◌%◌, w64, arith}
use Rattle.bites_scan.proofs.CellLemmas.{cell_set, cells_still_set}
use Rattle.bites_scan.proofs.trigrams.Trigrams.add.Goals as goal

pub returns-clause-added : goal.returns-clause-added
returns-clause-added c = cell_set w64 (c.args.hash % 64) (omega arith) c.args.self.now.words (c.args.hash / 64) (omega arith)

pub returns-clause-kept : goal.returns-clause-kept
returns-clause-kept c other has = cells_still_set w64 (c.args.hash % 64) (omega arith) c.args.self.now.words (c.args.hash / 64) (omega arith) (other / 64) (other % 64) has
