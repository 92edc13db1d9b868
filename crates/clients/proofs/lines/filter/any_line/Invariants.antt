use Rattle.std.proofs.Common.{◌≡◌}
use Rattle.clients.proofs.AnyLemmas.{IsNoneSoFar}
use Rattle.clients.proofs.lines.filter.any_line.Given as goal

-- the filter is unchanged, and no line that was read is selected
abbrev pub invariant-loop : goal.invariant-loop
invariant-loop g l =
    (l.filter ≡ l.initial.filter)
    × IsNoneSoFar l.initial.filter.searcher.tree l.initial.filter.invert (g.R.Read.remaining l.initial.input) (g.R.Read.remaining l.input)
