-- A place that is walked with threads that own their slots is walked as the machine on lists does.
use Rattle.bites_machine.proofs.Library.{common_steps, cases_Bool, ◌≡◌, ℕ, zero, suc, ◌+◌, ◌≤◌, Bool, true, false, cond, List, [], ◌∷◌, reverse, length, Some, refl, ap, not, arith, length-append, ◌==◌, list_any, nat_cmp, option_or, length-map, State, Program, state_at, targets_of, edges, HasRanges, IsWellFormed, MachineThread as Thread, Walking, moved, visited, stepped, thread_on, with_write, edges_unseen, left_to_walk, traced_walking as walking_of, TracedWalk as Walk}
use Rattle.std.specs.BTreeMap.{is_at}
use Rattle.bites_spec.specs.Closure as closure
use Rattle.bites_machine.proofs.model.MachineWalks.{visited_cases}
use Rattle.bites_machine.proofs.model.MachineCounts.{length-kept}
use Rattle.bites_machine.proofs.model.PathLemmas.{edges_within}
use Rattle.bites_machine.proofs.refine.BetweenStepsLemmas.{sound_states}

-- the state with this number has ranges in order
pub ranges_at : (p : Program) (q : ℕ) → IsWellFormed p → HasRanges (state_at p.states q)
ranges_at p q well = grind (arith, common_steps, sound_states)

more_seen : (states : List State) (k q : ℕ) (seen : List ℕ) → edges_unseen states k (q ∷ seen) ≤ edges_unseen states k seen
more_seen [] k q seen = omega arith
more_seen (s ∷ states) k q seen = grind (arith, common_steps, cases_Bool, (more_seen states (suc k) q seen))

-- the edges of a state that is visited are left no more
less_unseen : (states : List State) (k j q : ℕ) (seen : List ℕ) → k + j ≡ q → list_any (λ x. x == q) seen ≡ false →
    edges_unseen states k (q ∷ seen) + length (targets_of (state_at states j)) ≤ edges_unseen states k seen
less_unseen [] k j q seen e new = grind (arith, common_steps)
less_unseen (s ∷ states) k zero q seen e new = grind (arith, common_steps, cases_Bool, more_seen)
less_unseen (s ∷ states) k (suc j) q seen e new = grind (arith, common_steps, cases_Bool, (less_unseen states (suc k) j q seen))

module _ (hay : List ℕ) (longest : Bool) (place : ℕ) where
  -- a visit is noted
  visits_seen : (st : State) (t : Thread) (rest : List Thread) (w : Walking) → (visited hay longest place st t rest w).seen ≡ t.state ∷ w.seen
  visits_seen st t rest w = visited_cases hay longest place (λ v. v.seen ≡ t.state ∷ w.seen) st t rest w (λ match. refl) (λ other takes over. refl) (λ other beside. refl)

  module _ (p : Program) (t : Thread) (u v : Walk) (b : Bool) (unseen : list_any (λ q. q == t.state) (reverse u.visited.items) ≡ not b)
      (visits : (looks : ℕ) → walking_of v (suc looks) ≡ cond b (visited hay longest place (state_at p.states t.state) t u.stack.items (walking_of u looks)) (closure.dropped u.stack.items (walking_of u looks))) where
    -- the walk went on by a step
    pub steps : (looks : ℕ) → walking_of v (suc looks) ≡ stepped hay longest p place (t ∷ u.stack.items) (walking_of u looks)
    unfolding closure.stepped
    steps looks = let to = visits looks in grind (arith, common_steps, cases_Bool)

    -- and the set has what was visited
    pub sets : (q : ℕ) (old new : Bool) → new ≡ cond (is_at (nat_cmp t.state) q) true old → old ≡ list_any (λ x. x == q) (reverse u.visited.items) → new ≡ list_any (λ x. x == q) (reverse v.visited.items)
    sets q old new is was =
        let seen = ap (λ (w : Walking). w.seen) (visits 0) in
        grind (arith, common_steps, visits_seen, cases_Bool)

  -- after a step less is left than before it
  pub step_less : (p : Program) (t : Thread) (rest : List Thread) (w : Walking) → left_to_walk p (stepped hay longest p place (t ∷ rest) w) ≤ length rest + edges_unseen p.states 0 w.seen
  unfolding closure.stepped
  step_less p t rest w =
      let st = state_at p.states t.state in
      let few = visited_cases hay longest place (λ v. length v.stack ≤ length rest + length (targets_of st)) st t rest w
      (λ match. omega (arith, length-kept hay longest (option_or w.first_match (Some t)) rest)) (λ other takes over. omega arith)
      (λ other beside. omega (arith, length-append (moved hay longest place st t) rest, edges_within hay st place, length-map (edges hay st place) (thread_on t.start (with_write st place t.slots)))) in
      grind (arith, common_steps, visits_seen, less_unseen, cases_Bool)
