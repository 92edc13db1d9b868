-- The kinds of a step of the machine on lists, what every step of a walk keeps, and a walk of some threads with others below them.
use Rattle.bites_spec.specs.Closure as closure
use Rattle.bites_machine.proofs.Library.{common_steps, ◌≡◌, ℕ, zero, suc, ◌+◌, ◌<◌, Bool, true, false, List, [], ◌∷◌, ◌++◌, Some, refl, subst, ⊎_elim, arith, ◌==◌, list_any, iterate, option_or, cases_Bool, piece, Among, State, Program, Configuration, state_at, edges, is_match, char_state as char, ranges, dropped, MachineThread as Thread, Walking, kept, moved, visited, stepped, step, WalksTo, sym, ap, ◌∙◌, inl, inr, ◌⊎◌, append_assoc, nat_le, filter, filter-append, threads_at}
use Rattle.bites_machine.proofs.model.PathLemmas.{edges_apart}

-- the state takes a character
abbrev pub takes : State → Bool
takes (char q c) = true
takes (ranges q rs) = true
takes _ = false

module _ (hay : List ℕ) (longest : Bool) (i : ℕ) where
  -- each edge takes the piece
  abbrev pub LeadsOver : State → Type 0
  LeadsOver st = (v : Configuration) → Among (edges hay st i) v → (0 < (piece hay i).len) × (v.place ≡ i + (piece hay i).len)

  -- each edge stays at the place
  abbrev pub LeadsBeside : State → Type 0
  LeadsBeside st = (v : Configuration) → Among (edges hay st i) v → v.place ≡ i

  -- a thread at a match
  abbrev pub at_match : Thread → List Thread → Walking → Walking
  at_match t rest w = record {
    stack = kept hay longest (option_or w.first_match (Some t)) rest;
    seen = t.state ∷ w.seen;
    next = w.next;
    first_match = option_or w.first_match (Some t);
    looks = suc w.looks;
  }

  -- a thread that takes the piece, if it does
  abbrev pub taken : State → Thread → List Thread → Walking → Walking
  taken st t rest w = record {
    stack = rest;
    seen = t.state ∷ w.seen;
    next = w.next ++ moved hay longest i st t;
    first_match = w.first_match;
    looks = suc w.looks;
  }

  -- a thread that goes on at the place
  abbrev pub gone : State → Thread → List Thread → Walking → Walking
  gone st t rest w = record {
    stack = moved hay longest i st t ++ rest;
    seen = t.state ∷ w.seen;
    next = w.next;
    first_match = w.first_match;
    looks = suc w.looks;
  }

  -- what a visit makes of a walk, by the kind of the state
  pub visited_cases : (Q : Walking → Type 0) (st : State) (t : Thread) (rest : List Thread) (w : Walking) →
      (is_match st ≡ true → Q (at_match t rest w)) → (is_match st ≡ false → takes st ≡ true → LeadsOver st → Q (taken st t rest w)) →
      (is_match st ≡ false → LeadsBeside st → Q (gone st t rest w)) → Q (visited hay longest i st t rest w)
  unfolding closure.visited
  visited_cases h g t rest w on_match on_taken on_gone = grind (arith, common_steps, edges_apart)

  module _ (p : Program) where
    -- the state was visited at this place
    abbrev pub was_seen : List ℕ → ℕ → Bool
    was_seen seen q = list_any (λ x. x == q) seen

    abbrev pub state_of_thread : Thread → State
    state_of_thread t = state_at p.states t.state

    -- What a step keeps, by the kind of the step: P of the walk before it, Q of the walk after it.
    pub record Keeps (P : Walking → Type 0) : Type 0 where
      pub on_seen : (t : Thread) (rest : List Thread) (w : Walking) → w.stack ≡ t ∷ rest → was_seen w.seen t.state ≡ true → P w → P (dropped rest w)
      pub on_match : (t : Thread) (rest : List Thread) (w : Walking) → w.stack ≡ t ∷ rest → was_seen w.seen t.state ≡ false →
          is_match (state_of_thread t) ≡ true → P w → P (at_match t rest w)
      pub on_taken : (t : Thread) (rest : List Thread) (w : Walking) → w.stack ≡ t ∷ rest → was_seen w.seen t.state ≡ false →
          is_match (state_of_thread t) ≡ false → takes (state_of_thread t) ≡ true → LeadsOver (state_of_thread t) → P w → P (taken (state_of_thread t) t rest w)
      pub on_gone : (t : Thread) (rest : List Thread) (w : Walking) → w.stack ≡ t ∷ rest → was_seen w.seen t.state ≡ false →
          is_match (state_of_thread t) ≡ false → LeadsBeside (state_of_thread t) → P w → P (gone (state_of_thread t) t rest w)

    module _ (P : Walking → Type 0) (keeps : Keeps P) where
      stepped_keeps : (w : Walking) (stack : List Thread) → w.stack ≡ stack → P w → P (stepped hay longest p i stack w)
      unfolding closure.stepped
      stepped_keeps w [] is now = now
      stepped_keeps w (t ∷ rest) is now =
          ⊎_elim (λ (seen : was_seen w.seen t.state ≡ true). rw seen (keeps.on_seen t rest w is seen now))
          (λ (new : was_seen w.seen t.state ≡ false). rw new (visited_cases P _ t rest w (λ found. keeps.on_match t rest w is new found now) (λ no takes over. keeps.on_taken t rest w is new no takes over now)
          (λ no beside. keeps.on_gone t rest w is new no beside now))) (cases_Bool (was_seen w.seen t.state))

      iterate_keeps : (k : ℕ) (w : Walking) → P w → P (iterate (step hay longest p i) k w)
      iterate_keeps zero w now = now
      iterate_keeps (suc k) w now = iterate_keeps k (step hay longest p i w) (stepped_keeps w w.stack refl now)

      -- what every step keeps, some steps keep
      pub walk_keeps : (w v : Walking) → WalksTo hay longest p i w v → P w → P v
      walk_keeps w v (k, is) now = subst P is (iterate_keeps k w now)

pub iterate-add : {A : Type 0} (f : A → A) (j k : ℕ) (x : A) → iterate f (j + k) x ≡ iterate f k (iterate f j x)
iterate-add f zero k x = grind arith
iterate-add f (suc j) k x = let next : suc (j + k) ≡ suc j + k = omega arith in rw (← next) (iterate-add f j k (f x))

-- a walk that is over stays
pub stays : {T : Type 0} (p : Program) (a : closure.Threads T) (k : ℕ) (w : closure.Walking T) → w.stack ≡ [] → iterate (closure.step a p) k w ≡ w
unfolding closure.stepped
stays p a zero w over = refl
stays p a (suc k) w over = ap (iterate (closure.step a p) k) (ap (λ l. closure.stepped a p l w) over) ∙ stays p a k w over

module _ (hay : List ℕ) (longest : Bool) (p : Program) (i : ℕ) where
  -- some steps, and then some more
  pub walks_through : (w v u : Walking) → WalksTo hay longest p i w v → WalksTo hay longest p i v u → WalksTo hay longest p i w u
  walks_through w v u (k, is) (m, more) = (k + m, iterate-add (step hay longest p i) k m w ∙ ap (iterate (step hay longest p i) m) is ∙ more)

  -- what a step makes of a walk
  pub step_seen : (t : Thread) (rest : List Thread) (w : Walking) → w.stack ≡ t ∷ rest → was_seen hay longest i p w.seen t.state ≡ true →
      step hay longest p i w ≡ dropped rest w
  unfolding closure.stepped
  step_seen t rest w is was = grind arith

  pub step_new : (t : Thread) (rest : List Thread) (w : Walking) → w.stack ≡ t ∷ rest → was_seen hay longest i p w.seen t.state ≡ false →
      step hay longest p i w ≡ visited hay longest i (state_at p.states t.state) t rest w
  unfolding closure.stepped
  step_new t rest w is new = grind arith

  -- the walk with other threads below its own, except those that its first match cuts off
  abbrev pub above : List Thread → Walking → Walking
  above below w = record { stack = w.stack ++ kept hay longest w.first_match below; seen = w.seen; next = w.next; first_match = w.first_match; looks = w.looks }

  filter_again : (test : Thread → Bool) (ts : List Thread) → filter test (filter test ts) ≡ filter test ts
  filter_again test [] = refl
  filter_again test (t ∷ ts) = grind (arith, common_steps, cases_Bool, (filter_again test ts))

  visited_above : (below : List Thread) (st : State) (t : Thread) (rest : List Thread) (w : Walking) →
      visited hay longest i st t (rest ++ kept hay longest w.first_match below) (above below w) ≡ above below (visited hay longest i st t rest w)
  unfolding closure.visited
  visited_above below h t rest w = grind (arith, common_steps, at_match, filter-append, nat_le, filter_again, gone, append_assoc)

  -- a step of the threads above is a step of all
  step_above : (below : List Thread) (t : Thread) (rest : List Thread) (w : Walking) → w.stack ≡ t ∷ rest →
      step hay longest p i (above below w) ≡ above below (step hay longest p i w)
  step_above below t rest w is =
      ⊎_elim (λ (was : was_seen hay longest i p w.seen t.state ≡ true).
      step_seen _ _ _ (ap (λ (l : List Thread). l ++ kept hay longest w.first_match below) is) was ∙ ap (above below) (sym (step_seen _ _ _ is was)))
      (λ (new : was_seen hay longest i p w.seen t.state ≡ false). step_new _ _ _ (ap (λ (l : List Thread). l ++ kept hay longest w.first_match below) is) new
      ∙ visited_above _ _ _ _ _ ∙ ap (above below) (sym (step_new _ _ _ is new))) (cases_Bool (was_seen hay longest i p w.seen t.state))

  stack_cases : (ts : List Thread) → (ts ≡ []) ⊎ ((t : Thread) × (rest : List Thread) × (ts ≡ t ∷ rest))
  stack_cases [] = inl refl
  stack_cases (t ∷ ts) = inr (t, ts, refl)

  iterate_above : (below : List Thread) (k : ℕ) (w v : Walking) → iterate (step hay longest p i) k w ≡ v → WalksTo hay longest p i (above below w) (above below v)
  iterate_above below zero w v is = (0, ap (above below) is)
  iterate_above below (suc k) w v is =
      ⊎_elim (λ (done : w.stack ≡ []). (0, ap (above below) (sym (stays p (threads_at hay longest i) (suc k) w done) ∙ is))) (λ some.
      let on = iterate_above below k (step hay longest p i w) v is in
      (suc on.0, ap (iterate (step hay longest p i) on.0) (step_above _ _ _ _ some.2) ∙ on.1)) (stack_cases _)

  -- a walk of the threads above is a walk of all
  pub walks_above : (below : List Thread) (w v : Walking) → WalksTo hay longest p i w v → WalksTo hay longest p i (above below w) (above below v)
  walks_above below w v (k, is) = iterate_above below k w v is
