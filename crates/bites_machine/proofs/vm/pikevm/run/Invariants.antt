use Rattle.bites_machine.proofs.Library.{◌≤◌, ◌-◌, ℕ, List, Option, length, map, states_of, walk_state, thread_of, Passes, InvariantBetweenSteps, IsProgramOf, ReachedBy, Program}
use Rattle.bites_machine.proofs.vm.pikevm.run.Given as goal

abbrev pub invariant-places : goal.invariant-places
invariant-places l = record {
  within : l.place ≤ length l.input.haystack.now;
  passes : Passes (walk_state l.fn.counted l.fn.scratch l.fn.slots) (walk_state l.counted l.scratch l.slots);
  between : InvariantBetweenSteps l.place l.threads (walk_state l.counted l.scratch l.slots);
  gone : (p : Program) → IsProgramOf p (states_of l.fn.counted.states.now) l.first → (before : List (Option ℕ)) →
      ReachedBy p l.input before l.from.place l.from.starts l.from.is_found l.fn.counted.walked (map (thread_of l.fn.scratch.rows) l.fn.threads.threads) l.fn.slots →
      ReachedBy p l.input before l.place l.starts l.is_found l.counted.walked (map (thread_of l.scratch.rows) l.threads.threads) l.slots;
}

abbrev pub decreases-places : goal.decreases-places
decreases-places l = length l.input.haystack.now - l.place
