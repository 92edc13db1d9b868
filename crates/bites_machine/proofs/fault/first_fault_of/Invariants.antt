use Rattle.bites_machine.proofs.Library.{◌≡◌, length, drop, first_among, fault_of, states_of}
use Rattle.bites_machine.proofs.fault.first_fault_of.Given as goal

abbrev pub invariant-loop-state : goal.invariant-loop-state
invariant-loop-state l =
    first_among (fault_of (length l.states) l.slots) (states_of l.states) ≡ first_among (fault_of (length l.states) l.slots) (states_of (drop l.state-index l.states))
