use Rattle.bites_filter.specs.Lines.{lines_of}
use Rattle.bites_filter.proofs.TableLemmas.{AreSoFar}
use Rattle.bites_filter.proofs.table.read_table.Given as goal

-- the entries so far are those of the lines that were read
abbrev pub invariant-loop-number : goal.invariant-loop-number
invariant-loop-number g l = AreSoFar g.E.Entry.is (lines_of l.table) l.entries.items (lines_of l.left)
