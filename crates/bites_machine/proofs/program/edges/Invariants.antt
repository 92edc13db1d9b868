use Rattle.bites_machine.proofs.Library.{◌≡◌, ◌+◌, ◌<◌, ◌^◌, length, drop, sum_by, targets_of, states_of}
use Rattle.bites_machine.proofs.program.edges.Given as goal

abbrev pub invariant-loop-state : goal.invariant-loop-state
invariant-loop-state l = record {
  total : l.count + sum_by (λ s. length (targets_of s)) (states_of (drop l.state-index l.states)) ≡ sum_by (λ s. length (targets_of s)) (states_of l.states);
  within : l.count < 2 ^ 64;
}
