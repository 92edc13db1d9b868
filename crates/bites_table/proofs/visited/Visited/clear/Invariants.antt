use Rattle.std.proofs.Common.{length, reverse}
use Rattle.bites_table.proofs.VisitedLemmas.{AreListed}
use Rattle.bites_table.proofs.visited.Visited.clear.Given as goal

abbrev pub invariant-loop-state : goal.invariant-loop-state
invariant-loop-state l = AreListed l.self-inside.members.items (reverse l.self-inside.states.items)

abbrev pub decreases-loop-state : goal.decreases-loop-state
decreases-loop-state l = length l.self-inside.states.items
