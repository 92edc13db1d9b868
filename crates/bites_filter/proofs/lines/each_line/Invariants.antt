use Rattle.std.proofs.Common.{◌≤◌}
use Rattle.bites_filter.proofs.LineLemmas.{IsSoFar}
use Rattle.bites_filter.proofs.lines.each_line.Given as goal

abbrev pub invariant-lines : goal.invariant-lines
invariant-lines g l =
    (l.count ≤ l.counter)
    × IsSoFar g.T.LineTask.does l.fn.task (g.R.Read.remaining l.fn.input) (g.W.Write.contents l.fn.out)
    l.number l.task (g.R.Read.remaining l.input) (g.W.Write.contents l.out) l.count
