use Rattle.bites_machine.proofs.Library.{◌≡◌, ◌≤◌, ◌++◌, ℕ, map, drop, length, at, targets_of, thread_on}
use Rattle.bites_spec.specs.Program as program
use Rattle.bites_machine.proofs.vm.traced.push_targets.Given as goal

abbrev pub invariant-loop-number : goal.invariant-loop-number
invariant-loop-number l = record {
  stack : (i : ℕ) → l.stack.items ≡ map (thread_on l.thread.start l.thread.slots) (map (λ q. at q i) (drop l.number (targets_of (program.splits l.targets l.reverse)))) ++ l.initial.stack.items;
  within : l.number ≤ length l.targets;
}

abbrev pub decreases-loop-number : goal.decreases-loop-number
decreases-loop-number l = l.number
