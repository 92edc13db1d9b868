use Rattle.bites_machine.proofs.Library.{◌≡◌, ◌==◌, ℕ, reverse, list_any, nat_cmp, Walks, left_to_walk, traced_walking as walking_of}
use Rattle.std.specs.BTreeSet as tree
use Rattle.bites_machine.proofs.vm.traced.Walk.of.Given as goal

abbrev pub invariant-loop-thread : goal.invariant-loop-thread
invariant-loop-thread l = record {
  walks : Walks l.here.haystack.now l.here.longest l.here.place l.program.program l.fn.threads.items l.walk;
  visited : (q : ℕ) → tree.contains nat_cmp l.visited_set q ≡ list_any (λ x. x == q) (reverse l.walk.visited.items);
}

abbrev pub decreases-loop-thread : goal.decreases-loop-thread
decreases-loop-thread l = left_to_walk l.program.program (walking_of l.walk 0)
