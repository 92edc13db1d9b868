use Rattle.bites_machine.proofs.Library.{◌≡◌, ◌-◌, ◌≤◌, ◌<◌, ℕ, List, None, true, false, [], vec_len, reverse, length, Configuration, is_longest, is_earliest, IsTraced, searching_of}
use Rattle.bites_machine.proofs.vm.traced.trace.Given as goal

abbrev pub invariant-loop-ends : goal.invariant-loop-ends
invariant-loop-ends l = record {
  traced : l.input.start ≤ length l.input.haystack.now → (visits : List Configuration) × (looks : ℕ)
      × IsTraced l.input.haystack.now (is_longest l.input.kind) l.program.program l.program.program.slots l.input.anchored (is_earliest l.input.kind) l.input.start l.ends (reverse l.places.items)
      (searching_of l.search l.place visits looks);
  past : length l.input.haystack.now < l.input.start → (l.ends ≡ true) × (l.places.items ≡ []) × (l.search.best ≡ None);
  within : l.ends ≡ false → l.place ≤ length l.input.haystack.now;
  most : vec_len l.places ≤ l.most;
}

abbrev pub decreases-loop-ends : goal.decreases-loop-ends
decreases-loop-ends l = l.most - vec_len l.places
