-- Walks with their threads mapped, walks that begin with some looks, and that a walk has one end.
use Rattle.bites_table.proofs.Library.{common_steps, ◌==◌, list_any, option_or, iterate, cases_Bool, nat_tests, list_any-append, State, Program, state_at, ◌≡◌, ℕ, zero, suc, ◌+◌, ◌-◌, ◌≤◌, ◌⊎◌, ⊎_elim, Bool, true, false, ◌||◌, cond, List, [], ◌∷◌, ◌++◌, map, Option, Some, option_map, refl, sym, ap, ◌∙◌, arith, append_assoc, Threads, Walking, dropped, step, WalksTo, visited, stepped, or_right}
use Rattle.bites_table.specs.Laws.{IsThreadMap, mapped}

-- what each step does to the images of walks, walks do
module _ {T U : Type 0} (p : Program) (a : Threads T) (b : Threads U) (f : Walking T → Walking U) (one : (w : Walking T) → step b p (f w) ≡ f (step a p w)) where
  images : (k : ℕ) (w : Walking T) → iterate (step b p) k (f w) ≡ f (iterate (step a p) k w)
  images zero w = refl
  images (suc k) w = ap (iterate (step b p) k) (one w) ∙ images k (step a p w)

  pub walks_by : (w v : Walking T) → WalksTo a p w v → WalksTo b p (f w) (f v)
  walks_by w v (k, e) = (k, images k w ∙ ap f e)

module _ {T U : Type 0} (p : Program) (a : Threads T) (b : Threads U) (f : T → U) (is : IsThreadMap p a b f) where
  or_on : (o : Option T) (t : T) → option_or (option_map f o) (Some (f t)) ≡ option_map f (option_or o (Some t))
  or_on o t = grind (arith, common_steps)

  abbrev walk_of : ℕ → ℕ → List ℕ → List U → List U → Option U → Walking U
  walk_of q looks seen stack next first_match = record { stack = stack; seen = q ∷ seen; next = next; first_match = first_match; looks = suc looks }

  match_on : (o : Option T) (t : T) (rest : List T) → b.kept (option_or (option_map f o) (Some (f t))) (map f rest) ≡ map f (a.kept (option_or o (Some t)) rest)
  match_on o t rest = ap (λ x. b.kept x (map f rest)) (or_on o t) ∙ is.kept (option_or o (Some t)) rest

  visited_on : (st : State) (t : T) → b.moved st (f t) ≡ map f (a.moved st t) → (rest : List T) (w : Walking T) →
      visited b st (f t) (map f rest) (mapped f w) ≡ mapped f (visited a st t rest w)
  unfolding visited
  visited_on st t moves rest w = grind (arith, common_steps, match_on, or_on)

  by_test : (c : Bool) (q r : ℕ) (t : T) (rest : List T) (w : Walking T) → q ≡ r →
      visited b (state_at p.states r) (f t) (map f rest) (mapped f w) ≡ mapped f (visited a (state_at p.states r) t rest w) →
      cond c (dropped (map f rest) (mapped f w)) (visited b (state_at p.states q) (f t) (map f rest) (mapped f w))
      ≡ mapped f (cond c (dropped rest w) (visited a (state_at p.states r) t rest w))
  by_test c q r t rest w e same = grind (arith, common_steps)

  stepped_on : (stack : List T) (w : Walking T) → stepped b p (map f stack) (mapped f w) ≡ mapped f (stepped a p stack w)
  unfolding stepped
  stepped_on [] w = refl
  stepped_on (t ∷ rest) w = grind (arith, common_steps, by_test, visited_on)

  -- a walk is a walk of the threads' images
  pub walks_on : (w v : Walking T) → WalksTo a p w v → WalksTo b p (mapped f w) (mapped f v)
  walks_on = walks_by p a b (mapped f) (λ w. stepped_on w.stack w)

-- the looks of a walk that begins with some
module _ {T : Type 0} (p : Program) (a : Threads T) (n : ℕ) where
  abbrev pub later : Walking T → Walking T
  later w = record { stack = w.stack; seen = w.seen; next = w.next; first_match = w.first_match; looks = w.looks + n }

  next_look : (k : ℕ) → suc (k + n) ≡ suc k + n
  next_look k = omega arith

  visited_later : (st : State) (t : T) (rest : List T) (w : Walking T) → visited a st t rest (later w) ≡ later (visited a st t rest w)
  unfolding visited
  visited_later st t rest w = grind (arith, common_steps, next_look)

  either : (c : Bool) (rest : List T) (w v u : Walking T) → v ≡ later u → cond c (dropped rest (later w)) v ≡ later (cond c (dropped rest w) u)
  either c rest w v u e = grind (arith, common_steps, next_look)

  stepped_later : (stack : List T) (w : Walking T) → stepped a p stack (later w) ≡ later (stepped a p stack w)
  unfolding stepped
  stepped_later stack w = grind (arith, common_steps, either, visited_later)

  pub walks_later : (w v : Walking T) → WalksTo a p w v → WalksTo a p (later w) (later v)
  walks_later = walks_by p a a later (λ w. stepped_later w.stack w)

-- a walk that is over stays, so it has one end
module _ {T : Type 0} (p : Program) (a : Threads T) where
  stays : (k : ℕ) (w : Walking T) → w.stack ≡ [] → iterate (step a p) k w ≡ w
  unfolding stepped
  stays zero w over = refl
  stays (suc k) w over = ap (iterate (step a p) k) (ap (λ l. stepped a p l w) over) ∙ stays k w over

  iterates_add : (j k : ℕ) (w : Walking T) → iterate (step a p) (j + k) w ≡ iterate (step a p) k (iterate (step a p) j w)
  iterates_add zero k w = grind (arith, common_steps)
  iterates_add (suc j) k w = let next : suc j + k ≡ suc (j + k) = omega arith in ap (λ n. iterate (step a p) n w) next ∙ iterates_add j k (step a p w)

  pub walks_trans : (w v u : Walking T) → WalksTo a p w v → WalksTo a p v u → WalksTo a p w u
  walks_trans w v u (j, e) (k, f) = (j + k, iterates_add j k w ∙ ap (iterate (step a p) k) e ∙ f)

  one_end_by : (j k : ℕ) (w v u : Walking T) → iterate (step a p) j w ≡ v → v.stack ≡ [] → iterate (step a p) (j + k) w ≡ u → v ≡ u
  one_end_by j k w v u e over f = sym (stays k v over) ∙ ap (iterate (step a p) k) (sym e) ∙ sym (iterates_add j k w) ∙ f

  pub one_end : (w v u : Walking T) → WalksTo a p w v → v.stack ≡ [] → WalksTo a p w u → u.stack ≡ [] → v ≡ u
  one_end w v u (j, e) over (k, f) ended =
      let either : (j ≤ k) ⊎ (k ≤ j) = grind arith in
      ⊎_elim
      (λ (le : j ≤ k). let back : j + (k - j) ≡ k = omega arith in one_end_by j (k - j) w v u e over (rw back f))
      (λ (le : k ≤ j). let back : k + (j - k) ≡ j = omega arith in sym (one_end_by k (j - k) w u v f ended (rw back e)))
      either

-- a walk goes on after another that visited nothing which this one visits
module _ {T : Type 0} (p : Program) (a : Threads T) where
  abbrev has : ℕ → List ℕ → Bool
  has q seen = list_any (λ s. s == q) seen

  sees-itself : (q : ℕ) (seen : List ℕ) → has q (q ∷ seen) ≡ true
  sees-itself q seen = ap (λ b. b || has q seen) (let same : (q == q) ≡ true = grind (arith, nat_tests) in same)

  visited-sees : (st : State) (t : T) (rest : List T) (w : Walking T) → (visited a st t rest w).seen ≡ a.state t ∷ w.seen
  unfolding visited
  visited-sees st t rest w = grind (arith, common_steps)

  seen-stepped : (q : ℕ) (stack : List T) (w : Walking T) → has q w.seen ≡ true → has q (stepped a p stack w).seen ≡ true
  unfolding stepped
  seen-stepped q stack w e = grind (arith, common_steps, visited-sees, or_right)

  seen-stays : (q k : ℕ) (w : Walking T) → has q w.seen ≡ true → has q (iterate (step a p) k w).seen ≡ true
  seen-stays q zero w e = e
  seen-stays q (suc k) w e = seen-stays q k (step a p w) (seen-stepped q w.stack w e)

  module _ (seen : List ℕ) (next : List T) (n : ℕ) where
    abbrev pub after : Walking T → Walking T
    after w = record { stack = w.stack; seen = w.seen ++ seen; next = next ++ w.next; first_match = w.first_match; looks = w.looks + n }

    abbrev put : Walking T → List T → ℕ → Walking T
    put w next looks = record { stack = w.stack; seen = w.seen; next = next; first_match = w.first_match; looks = looks }

    look_next : (k : ℕ) → suc (k + n) ≡ suc k + n
    look_next k = omega arith

    visited_after : (st : State) (t : T) (rest : List T) (w : Walking T) → visited a st t rest (after w) ≡ after (visited a st t rest w)
    unfolding visited
    visited_after st t rest w = grind (arith, common_steps, look_next, append_assoc)

    module _ (end : Walking T) (apart : (q : ℕ) → has q seen ≡ true → has q end.seen ≡ false) where
      -- what is visited up to the end the first one did not visit
      unseen : (q k : ℕ) (w : Walking T) → iterate (step a p) k w ≡ end → has q w.seen ≡ true → has q seen ≡ false
      unseen q k w e is = grind (arith, common_steps, seen-stays, cases_Bool)

      stepped_after : (k : ℕ) (stack : List T) (w : Walking T) → iterate (step a p) k (stepped a p stack w) ≡ end → stepped a p stack (after w) ≡ after (stepped a p stack w)
      unfolding stepped
      stepped_after k [] w e = refl
      stepped_after k (t ∷ rest) w e =
          ap (λ b. cond b (dropped rest (after w)) (visited a (state_at p.states (a.state t)) t rest (after w))) (list_any-append (λ s. s == a.state t) w.seen seen)
          ∙ by_test (has (a.state t) w.seen) (has (a.state t) seen)
          (λ f. unseen (a.state t) k (stepped a p (t ∷ rest) w) e
          (ap (λ b. has (a.state t) (cond b (dropped rest w) (visited a (state_at p.states (a.state t)) t rest w)).seen) f
          ∙ ap (has (a.state t)) (visited-sees (state_at p.states (a.state t)) t rest w) ∙ sees-itself (a.state t) w.seen))
        where
          by_test : (c d : Bool) → (c ≡ false → d ≡ false) →
              cond (c || d) (dropped rest (after w)) (visited a (state_at p.states (a.state t)) t rest (after w))
              ≡ after (cond c (dropped rest w) (visited a (state_at p.states (a.state t)) t rest w))
          by_test c d none = grind (arith, common_steps, next, look_next, visited_after)

      steps_after : (k : ℕ) (w : Walking T) → iterate (step a p) k w ≡ end → iterate (step a p) k (after w) ≡ after end
      steps_after zero w e = ap after e
      steps_after (suc k) w e = ap (iterate (step a p) k) (stepped_after k w.stack w e) ∙ steps_after k (step a p w) e

      pub walks_after : (w : Walking T) → WalksTo a p w end → WalksTo a p (after w) (after end)
      walks_after w (k, e) = (k, steps_after k w e)
