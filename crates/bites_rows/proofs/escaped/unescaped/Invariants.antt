use Rattle.std.proofs.Common.{length}
use Rattle.bites_rows.proofs.escaped.unescaped.Given as goal

abbrev pub decreases-loop-first : goal.decreases-loop-first
decreases-loop-first l = length l.rest
