use Rattle.bites_table.proofs.Library.{◌≡◌, ◌++◌, take, states_of}
use Rattle.bites_table.specs.Bounds.{bounds_of}
use Rattle.bites_table.proofs.bounds.push_states.Given as goal

abbrev pub invariant-loop-state : goal.invariant-loop-state
invariant-loop-state l = l.bounds.items ≡ l.initial.bounds.items ++ bounds_of (take l.state-index (states_of l.states))
