-- Sums over lists without repetition, and over all states at some places.
use Rattle.bites_machine.proofs.Library.{common_steps, ◌≡◌, ℕ, zero, suc, ◌+◌, ◌*◌, ◌<◌, ◌≤◌, List, [], ◌∷◌, length, refl, sym, ap, ◌∙◌, arith, inl, inr, ⊎_elim, sum_by, flat_map, sum_by-cons, sum_by-append, Among, AllApart, State, Configuration, at, state_at, Among-left, Among-right}

pub sum_of_ones : {A : Type 0} (xs : List A) → sum_by (λ x. 1) xs ≡ length xs
sum_of_ones [] = refl
sum_of_ones {A} (x ∷ xs) = omega (arith, sum_by-cons (λ (y : A). 1) x xs, sum_of_ones xs)

-- a list without one of its elements: what it sums up to, and what is left
record Without {A : Type 0} (f : A → ℕ) (ys : List A) (x : A) : Type 0 where
  rest : List A
  sum : sum_by f ys ≡ f x + sum_by f rest
  kept : (t : A) → Among ys t → (t ≡ x → ⊥) → Among rest t

without : {A : Type 0} (f : A → ℕ) (ys : List A) (x : A) → Among ys x → Without f ys x
without f [] x h = absurd h
without {A} f (y ∷ ys) x h =
    ⊎_elim
    (λ (is : y ≡ x). record {
      rest = ys;
      sum = sum_by-cons f y ys ∙ ap (λ (z : A). f z + sum_by f ys) is;
      kept = λ t among other. ⊎_elim (λ (e : y ≡ t). absurd (other (sym e ∙ is))) (λ later. later) among;
    })
    (λ later. let w = without f ys x later in record {
      rest = y ∷ w.rest;
      sum = omega (arith, sum_by-cons f y ys, w.sum, sum_by-cons f y w.rest);
      kept = λ t among other. ⊎_elim (λ (e : y ≡ t). inl e) (λ behind. inr (w.kept t behind other)) among;
    })
    h

-- elements apart that are all among a list sum up to no more than the list
pub apart_sum : {A : Type 0} (f : A → ℕ) (xs ys : List A) → AllApart xs → ((t : A) → Among xs t → Among ys t) → sum_by f xs ≤ sum_by f ys
apart_sum f [] ys apart within = omega arith
apart_sum {A} f (x ∷ xs) ys apart within =
    let w = without f ys x (within x (inl refl)) in
    grind (arith, common_steps, sum_by-cons, (apart_sum f xs))

-- the states at a place, the first of them with this number
abbrev pub row : List State → ℕ → ℕ → List Configuration
row [] q i = []
row (s ∷ ss) q i = at q i ∷ row ss (suc q) i

-- the states at each of the places
abbrev pub rows : List State → List ℕ → List Configuration
rows ss ps = flat_map (row ss 0) ps

Among-row : (ss : List State) (q k i : ℕ) → k < length ss → Among (row ss q i) (at (q + k) i)
Among-row [] q k i lt = absurd (omega arith)
Among-row (s ∷ ss) q zero i lt = grind arith
Among-row (s ∷ ss) q (suc k) i lt = grind (arith, common_steps, (Among-row ss (suc q) k i))

-- each state is at each place
pub Among-rows : (ss : List State) (ps : List ℕ) (t : Configuration) → t.state < length ss → Among ps t.place → Among (rows ss ps) t
Among-rows ss [] t lt h = absurd h
Among-rows ss (i ∷ ps) t lt h =
    let from_zero : 0 + t.state ≡ t.state = omega arith in
    grind (arith, common_steps, Among-left, Among-row, Among-right, (Among-rows ss ps))

-- if the value of each configuration is at most that of its state, so is the sum of a row
module _ (f : Configuration → ℕ) (w : State → ℕ) where
  sum_of_row : (ss : List State) (q i : ℕ) → ((k : ℕ) → f (at (q + k) i) ≤ w (state_at ss k)) → sum_by f (row ss q i) ≤ sum_by w ss
  sum_of_row [] q i le = omega arith
  sum_of_row (s ∷ ss) q i le =
      let none : q + 0 ≡ q = omega arith in
      let next : (k : ℕ) → q + suc k ≡ suc q + k = λ k. omega arith in
      let here : f (at q i) ≤ w s = rw (← none) (le 0) in
      let behind = sum_of_row ss (suc q) i (λ k. rw (← next k) (le (suc k))) in
      omega (arith, here, behind, sum_by-cons f (at q i) (row ss (suc q) i), sum_by-cons w s ss)

  sum_of_rows : (ss : List State) (ps : List ℕ) → ((q i : ℕ) → f (at q i) ≤ w (state_at ss q)) → sum_by f (rows ss ps) ≤ sum_by w ss * length ps
  sum_of_rows ss [] le = omega arith
  sum_of_rows ss (i ∷ ps) le = grind (arith, common_steps, sum_of_row, sum_by-append, (sum_of_rows ss ps le))

  -- the sum over distinct configurations is at most that over the states, once for each place
  pub sum_of_configurations : (ss : List State) (ps : List ℕ) (ts : List Configuration) → ((q i : ℕ) → f (at q i) ≤ w (state_at ss q)) →
      AllApart ts → ((t : Configuration) → Among ts t → (t.state < length ss) × Among ps t.place) → sum_by f ts ≤ sum_by w ss * length ps
  sum_of_configurations ss ps ts le apart within = grind (arith, common_steps, apart_sum, Among-rows, sum_of_rows)
