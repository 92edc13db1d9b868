use Rattle.bites_machine.proofs.Library.{◌≤◌, ◌-◌, drop, length, walk_state, ClosesThreads}
use Rattle.bites_machine.proofs.vm.pikevm.close_threads.Given as goal

abbrev pub invariant-loop-index : goal.invariant-loop-index
invariant-loop-index l = record {
  within : l.index ≤ length l.threads.threads;
  walks : ClosesThreads l.here l.threads.threads (drop l.index l.threads.threads) (walk_state l.initial.counted l.initial.scratch l.initial.slots) (walk_state l.counted l.scratch l.slots);
}

abbrev pub decreases-loop-index : goal.decreases-loop-index
decreases-loop-index l = length l.threads.threads - l.index
