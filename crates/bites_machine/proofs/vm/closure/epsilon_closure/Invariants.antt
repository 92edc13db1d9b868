use Rattle.bites_machine.proofs.Library.{◌+◌, ◌++◌, length, option_to_list, states_of, walk_state, edges_left}
use Rattle.bites_machine.proofs.refine.ClosureSteps.{ClosesSome}
use Rattle.bites_machine.proofs.vm.closure.epsilon_closure.Given as goal

abbrev pub invariant-loop-next : goal.invariant-loop-next
invariant-loop-next l = ClosesSome l.here l.thread (walk_state l.initial.counted l.initial.scratch l.initial.slots) (walk_state l.counted l.scratch l.slots) l.next

abbrev pub decreases-loop-next : goal.decreases-loop-next
decreases-loop-next l = length (option_to_list l.next ++ l.scratch.stack.frames) + edges_left (states_of l.counted.states.now) l.scratch.visited_set
