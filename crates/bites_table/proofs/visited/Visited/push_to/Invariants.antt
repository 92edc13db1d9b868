use Rattle.std.proofs.Common.{◌≡◌, ◌++◌, take}
use Rattle.bites_table.proofs.visited.Visited.push_to.Given as goal

abbrev pub invariant-loop-state : goal.invariant-loop-state
invariant-loop-state l = l.states.items ≡ l.initial.states.items ++ take l.state-index l.state-items
