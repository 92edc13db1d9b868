-- What `first_walk` finds is a run, no simple run comes before it, and where it finds none there is none.
use Rattle.std.proofs.lemmas.Grind.{common_steps}
use Rattle.std.proofs.Common.{◌≡◌, ◌≢◌, ℕ, zero, suc, ◌+◌, ◌<◌, ◌≤◌, Bool, true, false, List, [], ◌∷◌, length, Option, Some, None, IsSome, is_some, option_map, refl, sym, ap, ap₂, ◌∙◌, subst, inl, inr, ⊎_elim, true≢false, arith, ◌⊎◌}
use Rattle.std.proofs.lemmas.Option.{none-some, same_Some}
use Rattle.std.specs.Option.{option_or}
use Rattle.std.proofs.lemmas.Bool.{cases_Bool}
use Rattle.bites_spec.specs.Walks.{Among, AllApart, Earlier, Walk, Before, first_among, with_configuration, first_walk}
use Rattle.bites_spec.proofs.runs.WalkLemmas.{run_dead, run_enough, map_none, IsSome-map}

pub or_cases : {A : Type 0} (o p : Option A) (x : A) → option_or o p ≡ Some x → (o ≡ Some x) ⊎ ((o ≡ None) × (p ≡ Some x))
or_cases None p x e = inr (refl, e)
or_cases (Some y) p x e = inl e

pub or_none : {A : Type 0} (o p : Option A) → option_or o p ≡ None → (o ≡ None) × (p ≡ None)
or_none None p e = (refl, e)
or_none (Some y) p e = absurd (none-some y (sym e))

pub map_some : {A B : Type 0} (f : A → B) (o : Option A) (y : B) → option_map f o ≡ Some y → (x : A) × (o ≡ Some x) × (f x ≡ y)
map_some f None y e = absurd (none-some y e)
map_some f (Some x) y e = (x, refl, same_Some (f x) y e)

among_none : {A B : Type 0} (f : A → Option B) (xs : List A) → first_among f xs ≡ None → (x : A) → Among xs x → f x ≡ None
among_none f [] e x h = absurd h
among_none f (y ∷ ys) e x h =
    let both = or_none (f y) (first_among f ys) e in
    ⊎_elim (λ (here : y ≡ x). subst (λ z. f z ≡ None) here both.0) (among_none f ys both.1 x) h

among_some : {A B : Type 0} (f : A → Option B) (xs : List A) (r : B) → first_among f xs ≡ Some r → (x : A) × Among xs x × (f x ≡ Some r)
among_some f [] r e = absurd (none-some r e)
among_some f (x ∷ xs) r e =
    ⊎_elim (λ here. (x, inl refl, here))
    (λ later. let m = among_some f xs r later.1 in (m.0, inr m.1, m.2))
    (or_cases (f x) (first_among f xs) r e)

IsSome-or : {A : Type 0} (o p : Option A) → IsSome o ⊎ IsSome p → IsSome (option_or o p)
IsSome-or None p h = ⊎_elim (λ no. absurd (true≢false (sym no))) (λ yes. yes) h
IsSome-or (Some x) p h = refl

some_among : {A B : Type 0} (f : A → Option B) (xs : List A) (x : A) → Among xs x → IsSome (f x) → IsSome (first_among f xs)
some_among f [] x h some = absurd h
some_among f (y ∷ ys) x h some =
    IsSome-or (f y) (first_among f ys)
    (⊎_elim (λ (here : y ≡ x). inl (subst (λ z. IsSome (f z)) (sym here) some)) (λ later. inr (some_among f ys x later some)) h)

module _ {A : Type 0} (same : A → A → Bool) (leads : A → List A) (is_match : A → Bool)
    (same_is : (p q : A) → same p q ≡ true → p ≡ q) (same_refl : (p : A) → same p p ≡ true)
    (match_ends : (p : A) → is_match p ≡ true → leads p ≡ []) where
  abbrev run : ℕ → (A → Bool) → A → Option (List A)
  run = first_walk same leads is_match

  abbrev plus : (A → Bool) → A → A → Bool
  plus = with_configuration same leads is_match

  -- after p these configurations lead to a match, each by an edge
  abbrev pub RunsOn : A → List A → Type 0
  RunsOn p r = Walk leads (λ q. is_match q ≡ true) p r

  -- no configuration of s is met, and none twice
  abbrev pub Apart : (A → Bool) → A → List A → Type 0
  Apart s p [] = s p ≡ false
  Apart s p (q ∷ r) = (s p ≡ false) × Apart (plus s p) q r

  run_step : (n : ℕ) (s : A → Bool) (p : A) → s p ≡ false → is_match p ≡ false →
      run (suc n) s p ≡ option_map (λ r. p ∷ r) (first_among (run n (plus s p)) (leads p))
  unfolding first_walk
  run_step n s p e m = rw (e, m) refl

  run_zero : (s : A → Bool) (p : A) → run 0 s p ≡ None
  unfolding first_walk
  run_zero s p = refl

  run_seen : (n : ℕ) (s : A → Bool) (p : A) → s p ≡ true → run (suc n) s p ≡ None
  unfolding first_walk
  run_seen n s p e = rw e refl

  run_match : (n : ℕ) (s : A → Bool) (p : A) → s p ≡ false → is_match p ≡ true → run (suc n) s p ≡ Some (p ∷ [])
  unfolding first_walk
  run_match n s p e m = rw (e, m) refl

  -- Where a run of fewer than n edges leads from p around s, `first_walk` finds one.
  pub finds : (n : ℕ) (s : A → Bool) (p : A) (r : List A) → RunsOn p r → Apart s p r → length r < n → IsSome (run n s p)
  unfolding first_walk
  finds zero s p r runs apart le = absurd (omega arith)
  finds (suc n) s p [] runs apart le = rw (apart, runs) refl
  finds (suc n) s p (q ∷ r) runs apart le =
      ⊎_elim (λ is. ap is_some (run_match n s p apart.0 is))
      (λ goes. ap is_some (run_step n s p apart.0 goes)
      ∙ IsSome-map (λ x. p ∷ x) _ (some_among (run n (plus s p)) (leads p) q runs.0 (finds n (plus s p) q r runs.1 apart.1 (omega arith))))
      (cases_Bool (is_match p))

  -- where `first_walk` finds none, no run leads through unseen configurations
  pub no_run : (n : ℕ) (s : A → Bool) (p : A) (r : List A) → run (suc n) s p ≡ None → length r ≤ n → s p ≡ false →
      ((q : A) → Among r q → s q ≡ false) → RunsOn p r → ⊥
  no_run n s p [] none le new around runs = none-some (p ∷ []) (sym none ∙ run_match n s p new runs)
  no_run zero s p (q ∷ r) none le new around runs = absurd (omega arith)
  no_run (suc n) s p (q ∷ r) none le new around runs =
      ⊎_elim (λ is. none-some (p ∷ []) (sym none ∙ run_match (suc n) s p new is))
      (λ goes.
      let dead : run (suc n) (plus s p) q ≡ None = among_none (run (suc n) (plus s p)) (leads p)
      (map_none (λ x. p ∷ x) _ (sym (run_step (suc n) s p new goes) ∙ none)) q runs.0 in
      no_run n s q r (sym (run_dead same leads is_match same_is same_refl (suc n) (suc (suc n)) s p q (omega arith) none) ∙ dead)
      (omega arith) (around q (inl refl)) (λ x h. around x (inr h)) runs.1)
      (cases_Bool (is_match p))

  -- What is found is a run around s.
  pub sound : (n : ℕ) (s : A → Bool) (p : A) (r : List A) → run n s p ≡ Some r → (rest : List A) × (r ≡ p ∷ rest) × RunsOn p rest × Apart s p rest
  sound zero s p r e = absurd (none-some r (sym (run_zero s p) ∙ e))
  sound (suc n) s p r e =
      ⊎_elim (λ seen. absurd (none-some r (sym (run_seen n s p seen) ∙ e)))
      (λ new. ⊎_elim
      (λ is. ([], sym (same_Some _ _ (sym (run_match n s p new is) ∙ e)), is, new))
      (λ goes.
      let inner = map_some (λ x. p ∷ x) _ r (sym (run_step n s p new goes) ∙ e) in
      let by = among_some (run n (plus s p)) (leads p) inner.0 inner.1 in
      let next = sound n (plus s p) by.0 inner.0 by.2 in (
        inner.0,
        sym inner.2,
        subst (λ l. RunsOn p l) (sym next.1) (by.1, next.2),
        subst (λ l. Apart s p l) (sym next.1) (new, next.3),
      ))
      (cases_Bool (is_match p)))
      (cases_Bool (s p))

  apart_of : (x y : A) → same x y ≡ false → x ≢ y
  apart_of x y b is = true≢false (sym (same_refl x) ∙ ap (same x) is ∙ b)

  -- where the first success is, and how any other element stands to it
  first_split : {B : Type 0} (f : A → Option B) (xs : List A) (r : B) → first_among f xs ≡ Some r → (y : A) → Among xs y →
      (z : A) × (f z ≡ Some r) × Among xs z × ((y ≡ z) ⊎ (Earlier xs z y ⊎ (f y ≡ None)))
  first_split f [] r e y h = absurd h
  first_split f (x ∷ xs) r e y h =
      ⊎_elim
      (λ (now : f x ≡ Some r). (
        x,
        now,
        inl refl,
        ⊎_elim (λ (is : x ≡ y). inl (sym is))
            (λ (later : Among xs y). ⊎_elim (λ (b : same x y ≡ true). inl (sym (same_is x y b)))
            (λ (b : same x y ≡ false). inr (inl (inl (refl, apart_of x y b, later)))) (cases_Bool (same x y))) h,
      ))
      (λ later.
      ⊎_elim
      (λ (is : x ≡ y).
      let m = among_some f xs r later.1 in
      (m.0, m.2, inr m.1, inr (inr (subst (λ z. f z ≡ None) is later.0))))
      (λ (among : Among xs y).
      let m = first_split f xs r later.1 y among in (
        m.0,
        m.1,
        inr m.2,
        ⊎_elim (λ is. inl is)
            (⊎_elim
            (λ early. ⊎_elim (λ (b : same x y ≡ true). inr (inr (subst (λ z. f z ≡ None) (same_is x y b) later.0)))
            (λ (b : same x y ≡ false). inr (inl (inr (λ is. none-some r (sym later.0 ∙ ap f is ∙ m.1), apart_of x y b, early))))
            (cases_Bool (same x y)))
            (λ none. inr (inr none)))
            m.3,
      ))
      h)
      (or_cases (f x) (first_among f xs) r e)

  plus_false : (s : A → Bool) (p q : A) → plus s p q ≡ false → (same q p ≡ false) × (s q ≡ false)
  plus_false s p q e = grind (arith, common_steps, true≢false)

  plus_of : (s : A → Bool) (p q : A) → same q p ≡ false → s q ≡ false → plus s p q ≡ false
  plus_of s p q a b = rw (a, b) refl

  differs : (p q : A) → p ≢ q → same q p ≡ false
  differs p q apart = ⊎_elim (λ (b : same q p ≡ true). absurd (apart (sym (same_is q p b)))) (λ b. b) (cases_Bool (same q p))

  -- the configurations of a walk around s are all unseen
  Apart-unseen : (s : A → Bool) (p : A) (r : List A) → Apart s p r → (q : A) → Among (p ∷ r) q → s q ≡ false
  Apart-unseen s p [] apart q h = ⊎_elim (λ (is : p ≡ q). subst (λ x. s x ≡ false) is apart) (λ (no : ⊥). absurd no) h
  Apart-unseen s p (x ∷ r) apart q h =
      ⊎_elim (λ (is : p ≡ q). subst (λ y. s y ≡ false) is apart.0)
      (λ later. (plus_false s p q (Apart-unseen (plus s p) x r apart.1 q later)).1) h

  pub Apart-simple : (s : A → Bool) (p : A) (r : List A) → Apart s p r → AllApart (p ∷ r)
  Apart-simple s p [] apart = (λ h. h, tt)
  Apart-simple s p (x ∷ r) apart = (
    λ h. let b = (plus_false s p p (Apart-unseen (plus s p) x r apart.1 p h)).0 in true≢false (sym (same_refl p) ∙ b),
    Apart-simple (plus s p) x r apart.1,
  )

  -- a simple walk through unseen configurations avoids those that were seen
  pub Apart-of : (s : A → Bool) (p : A) (r : List A) → AllApart (p ∷ r) → ((q : A) → Among (p ∷ r) q → s q ≡ false) → Apart s p r
  Apart-of s p [] simple unseen = unseen p (inl refl)
  Apart-of s p (x ∷ r) simple unseen = (
    unseen p (inl refl),
    Apart-of (plus s p) x r simple.1
        (λ q h. plus_of s p q (differs p q (λ is. simple.0 (subst (λ y. Among (x ∷ r) y) (sym is) h))) (unseen q (inr h))),
  )

  module _ (Inside : A → Type 0) (inside_on : (p q : A) → Inside p → Among (leads p) q → Inside q) (unseen : (A → Bool) → ℕ)
      (fewer : (s : A → Bool) (p : A) → Inside p → s p ≡ false → unseen (plus s p) < unseen s) where
    -- a walk around s has fewer edges than there are unseen configurations
    short : (s : A → Bool) (p : A) (r : List A) → Inside p → RunsOn p r → Apart s p r → length r < unseen s
    short s p [] ins runs apart = omega (arith, fewer s p ins apart)
    short s p (q ∷ r) ins runs apart =
        omega (arith, fewer s p ins apart.0, short (plus s p) q r (inside_on p q ins runs.0) runs.1 apart.1)

    -- No walk around s comes before the one that is found.
    pub first : (n : ℕ) (s : A → Bool) (p : A) (r : List A) → Inside p → unseen s ≤ n → run n s p ≡ Some (p ∷ r) →
        (o : List A) → RunsOn p o → Apart s p o → (o ≡ r) ⊎ Before leads p r o
    first zero s p r ins enough found o runs apart = absurd (none-some (p ∷ r) (sym (run_zero s p) ∙ found))
    first (suc n) s p r ins enough found [] runs apart = grind (arith, common_steps, same_Some, run_match)
    first (suc n) s p r ins enough found (y ∷ o) runs apart =
        ⊎_elim
        (λ (is : is_match p ≡ true). absurd (subst (λ xs. Among xs y) (match_ends p is) runs.0))
        (λ (goes : is_match p ≡ false).
        let inner = map_some (λ x. p ∷ x) _ (p ∷ r) (sym (run_step n s p apart.0 goes) ∙ found) in
        let tail : inner.0 ≡ r = tail_is inner.0 r inner.2 in
        let by = first_split (run n (plus s p)) (leads p) r (inner.1 ∙ ap Some tail) y runs.0 in
        let less = fewer s p ins apart.0 in
        let of_z = sound n (plus s p) by.0 r by.1 in
        subst (λ r'. (y ∷ o ≡ r') ⊎ Before leads p r' (y ∷ o)) (sym of_z.1)
        (⊎_elim
        (λ (is : y ≡ by.0).
        let again = first n (plus s p) y of_z.0 (inside_on p y ins runs.0) (omega (arith, less))
        (subst (λ x. run n (plus s p) x ≡ Some (x ∷ of_z.0)) (sym is) (by.1 ∙ ap Some of_z.1)) o runs.1 apart.1 in
        ⊎_elim (λ eq. inl (ap₂ ◌∷◌ is eq))
        (λ bef. inr (inr (sym is, subst (λ x. Before leads x of_z.0 o) is bef))) again)
        (⊎_elim
        (λ early. inr (inl early))
        (λ none. absurd (none_but_some (run n (plus s p) y) none
        (finds n (plus s p) y o runs.1 apart.1
        (omega (arith, less, short (plus s p) y o (inside_on p y ins runs.0) runs.1 apart.1))))))
        by.3))
        (cases_Bool (is_match p))
      where
        tail_is : (x r : List A) → p ∷ x ≡ p ∷ r → x ≡ r
        tail_is x r e = cc

        none_but_some : (o : Option (List A)) → o ≡ None → IsSome o → ⊥
        none_but_some o none some = true≢false (sym some ∙ ap is_some none)

    -- Where no walk is found, there is none, simple or not.
    pub none_at_all : (n : ℕ) (s : A → Bool) (p : A) → Inside p → unseen s ≤ n → run n s p ≡ None →
        ((q : A) → s q ≡ false) → (r : List A) → RunsOn p r → ⊥
    none_at_all n s p ins enough none none_seen r runs =
        no_run (n + length r) s p r
        (run_enough same leads is_match same_is same_refl Inside inside_on unseen fewer (suc (n + length r)) n s p ins (omega arith) enough ∙ none)
        (omega arith) (none_seen p) (λ q h. none_seen q) runs
