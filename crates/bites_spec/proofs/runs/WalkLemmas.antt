-- A depth-first walk that never comes back to a configuration loses nothing.
use Rattle.std.proofs.lemmas.Grind.{common_steps}
use Rattle.std.proofs.Common.{◌≡◌, ℕ, zero, suc, ◌<◌, ◌≤◌, Bool, true, false, ◌||◌, List, [], ◌∷◌, ◌++◌, Option, Some, None, IsSome, is_some, option_map, refl, sym, ap, ap₂, ◌∙◌, subst, inl, inr, ⊎_elim, true≢false, arith, ◌⊎◌}
use Rattle.std.specs.Option.{option_or}
use Rattle.std.proofs.lemmas.Bool.{cases_Bool, or_cases}
use Rattle.bites_spec.specs.Walks.{Among, first_among, with_configuration, first_walk}

or_left : (a b : Bool) → a ≡ true → (a || b) ≡ true
or_left true b e = refl
or_left false b e = absurd (true≢false (sym e))

or_right : (a b : Bool) → b ≡ true → (a || b) ≡ true
or_right true b e = refl
or_right false b e = e

or_swap : (a b c : Bool) → (a || (b || c)) ≡ (b || (a || c))
or_swap true true c = refl
or_swap true false c = refl
or_swap false b c = refl

or_false : (a b : Bool) → a ≡ false → b ≡ false → (a || b) ≡ false
or_false true b e f = absurd (true≢false e)
or_false false b e f = f

IsSome-or_left : {A : Type 0} (o p : Option A) → IsSome o → IsSome (option_or o p)
IsSome-or_left None p h = absurd (true≢false (sym h))
IsSome-or_left (Some x) p h = refl

IsSome-or_right : {A : Type 0} (o p : Option A) → IsSome p → IsSome (option_or o p)
IsSome-or_right None p h = h
IsSome-or_right (Some x) p h = refl

IsSome-or_cases : {A : Type 0} (o p : Option A) → IsSome (option_or o p) → IsSome o ⊎ IsSome p
IsSome-or_cases None p h = inr h
IsSome-or_cases (Some x) p h = inl refl

some_or_none : {A : Type 0} (o : Option A) → IsSome o ⊎ (o ≡ None)
some_or_none None = inr refl
some_or_none (Some x) = inl refl

not_some_none : {A : Type 0} (o : Option A) → o ≡ None → IsSome o → ⊥
not_some_none o e h = true≢false (sym h ∙ ap is_some e)

pub or_assoc : {A : Type 0} (o p q : Option A) → option_or (option_or o p) q ≡ option_or o (option_or p q)
or_assoc None p q = refl
or_assoc (Some x) p q = refl

map_or : {A B C : Type 0} (o p : Option A) (g : A → B) (f : B → C) →
    option_or (option_map (λ r. f (g r)) o) (option_map f (option_map g p)) ≡ option_map f (option_map g (option_or o p))
map_or None p g f = refl
map_or (Some x) p g f = refl

pub map_none : {A B : Type 0} (f : A → B) (o : Option A) → option_map f o ≡ None → o ≡ None
map_none f None e = refl
map_none f (Some x) e = absurd (true≢false (ap is_some e))

or_some : {A : Type 0} (o p q : Option A) → IsSome o → option_or o p ≡ option_or o q
or_some None p q h = absurd (true≢false (sym h))
or_some (Some x) p q h = refl

pub IsSome-map : {A B : Type 0} (f : A → B) (o : Option A) → IsSome o → IsSome (option_map f o)
IsSome-map f None h = absurd (true≢false (sym h))
IsSome-map f (Some x) h = refl

IsSome-unmap : {A B : Type 0} (f : A → B) (o : Option A) → IsSome (option_map f o) → IsSome o
IsSome-unmap f None h = absurd (true≢false (sym h))
IsSome-unmap f (Some x) h = refl

first_among-append : {A B : Type 0} (f : A → Option B) (xs ys : List A) →
    first_among f (xs ++ ys) ≡ option_or (first_among f xs) (first_among f ys)
first_among-append f [] ys = refl
first_among-append f (x ∷ xs) ys = ap (option_or (f x)) (first_among-append f xs ys) ∙ sym (or_assoc (f x) _ _)

first_among_cong : {A B : Type 0} (f g : A → Option B) (xs : List A) → ((x : A) → f x ≡ g x) → first_among f xs ≡ first_among g xs
first_among_cong f g [] h = refl
first_among_cong f g (x ∷ xs) h = ap₂ option_or (h x) (first_among_cong f g xs h)

-- only the list's elements matter to the first success
pub first_among_cong_in : {A B : Type 0} (f g : A → Option B) (xs : List A) → ((x : A) → Among xs x → f x ≡ g x) → first_among f xs ≡ first_among g xs
first_among_cong_in f g [] h = refl
first_among_cong_in f g (x ∷ xs) h = ap₂ option_or (h x (inl refl)) (first_among_cong_in f g xs (λ y a. h y (inr a)))

IsSome-among : {A B : Type 0} (f g : A → Option B) (xs : List A) → ((x : A) → IsSome (f x) → IsSome (g x)) →
    IsSome (first_among f xs) → IsSome (first_among g xs)
IsSome-among f g [] h s = s
IsSome-among f g (x ∷ xs) h s =
    ⊎_elim (λ a. IsSome-or_left (g x) _ (h x a)) (λ b. IsSome-or_right (g x) _ (IsSome-among f g xs h b))
    (IsSome-or_cases (f x) _ s)

module _ {A : Type 0} (same : A → A → Bool) (leads : A → List A) (is_match : A → Bool)
    (same_is : (p q : A) → same p q ≡ true → p ≡ q) (same_refl : (p : A) → same p p ≡ true) where
  abbrev run : ℕ → (A → Bool) → A → Option (List A)
  run = first_walk same leads is_match

  abbrev plus : (A → Bool) → A → A → Bool
  plus = with_configuration same leads is_match

  -- every configuration of s is one of t
  abbrev Within : (A → Bool) → (A → Bool) → Type 0
  Within s t = (q : A) → s q ≡ true → t q ≡ true

  Within-plus : (s t : A → Bool) (p : A) → Within s t → Within (plus s p) (plus t p)
  Within-plus s t p h q e = ⊎_elim (λ a. or_left (same q p) (t q) a) (λ b. or_right (same q p) (t q) (h q b)) (or_cases (same q p) (s q) e)

  run_cong : (n : ℕ) (s t : A → Bool) (p : A) → ((q : A) → s q ≡ t q) → run n s p ≡ run n t p
  run_cong n s t p h = λ i. run n (λ q. h q i) p

  run_zero : (s : A → Bool) (p : A) → run 0 s p ≡ None
  unfolding first_walk
  run_zero s p = refl

  pub run_seen : (n : ℕ) (s : A → Bool) (p : A) → s p ≡ true → run n s p ≡ None
  unfolding first_walk
  run_seen zero s p e = refl
  run_seen (suc n) s p e = rw e refl

  pub run_match : (n : ℕ) (s : A → Bool) (p : A) → s p ≡ false → is_match p ≡ true → run (suc n) s p ≡ Some (p ∷ [])
  unfolding first_walk
  run_match n s p e m = rw (e, m) refl

  run_on : (n : ℕ) (s : A → Bool) (p : A) → s p ≡ false → is_match p ≡ false →
      run (suc n) s p ≡ option_map (λ r. p ∷ r) (first_among (run n (plus s p)) (leads p))
  unfolding first_walk
  run_on n s p e m = rw (e, m) refl

  false_below : (s t : A → Bool) (p : A) → Within s t → t p ≡ false → s p ≡ false
  false_below s t p h e = ⊎_elim (λ a. absurd (true≢false (sym (h p a) ∙ e))) (λ b. b) (cases_Bool (s p))

  -- a run that is found stays one with fewer configurations to avoid and more steps allowed
  pub run_more : (n m : ℕ) (s t : A → Bool) (p : A) → n ≤ m → Within s t → IsSome (run n t p) → IsSome (run m s p)
  run_more zero m s t p le h some = absurd (not_some_none _ (run_zero t p) some)
  run_more (suc n) zero s t p le h some = absurd (omega arith)
  run_more (suc n) (suc m) s t p le h some =
      ⊎_elim (λ seen. absurd (not_some_none _ (run_seen (suc n) t p seen) some))
      (λ new. let fresh = false_below s t p h new in
      ⊎_elim (λ is. ap is_some (run_match m s p fresh is))
      (λ goes. ap is_some (run_on m s p fresh goes)
      ∙ IsSome-map (λ r. p ∷ r) _
      (IsSome-among (run n (plus t p)) (run m (plus s p)) (leads p)
      (λ q. run_more n m (plus s p) (plus t p) q (omega arith) (Within-plus s t p h))
      (IsSome-unmap (λ r. p ∷ r) _ (sym (ap is_some (run_on n t p new goes)) ∙ some))))
      (cases_Bool (is_match p)))
      (cases_Bool (t p))

  plus_swap : (s : A → Bool) (p r q : A) → plus (plus s p) r q ≡ plus (plus s r) p q
  plus_swap s p r q = or_swap (same q r) (same q p) (s q)

  none_below : (n m : ℕ) (s t : A → Bool) (p : A) → n ≤ m → Within s t → run m s p ≡ None → run n t p ≡ None
  none_below n m s t p le h e =
      ⊎_elim (λ some. absurd (not_some_none _ e (run_more n m s t p le h some))) (λ none. none) (some_or_none (run n t p))

  -- a configuration from which no run is found may be closed: no other run is lost or changed
  pub run_dead : (n m : ℕ) (s : A → Bool) (p r : A) → n ≤ m → run m s p ≡ None → run n (plus s p) r ≡ run n s r
  run_dead zero m s p r le dead = run_zero (plus s p) r ∙ sym (run_zero s r)
  run_dead (suc n) m s p r le dead =
      ⊎_elim (λ seen. run_seen (suc n) (plus s p) r (or_right (same r p) (s r) seen) ∙ sym (run_seen (suc n) s r seen))
      (λ new. ⊎_elim
      (λ (here : same r p ≡ true). run_seen (suc n) (plus s p) r (or_left (same r p) (s r) here)
      ∙ sym (subst (λ (x : A). run (suc n) s x ≡ None) (sym (same_is r p here)) (none_below (suc n) m s s p le (λ q e. e) dead)))
      (λ other. let fresh : plus s p r ≡ false = or_false (same r p) (s r) other new in
      ⊎_elim (λ is. run_match n (plus s p) r fresh is ∙ sym (run_match n s r new is))
      (λ goes. run_on n (plus s p) r fresh goes
      ∙ ap (option_map (λ x. r ∷ x)) (first_among_cong (run n (plus (plus s p) r)) (run n (plus s r)) (leads r) (λ q.
      run_cong n (plus (plus s p) r) (plus (plus s r) p) q (plus_swap s p r)
      ∙ run_dead n n (plus s r) p q (omega arith)
      (none_below n m s (plus s r) p (omega arith) (λ x e. or_right (same x r) (s x) e) dead)))
      ∙ sym (run_on n s r new goes))
      (cases_Bool (is_match r)))
      (cases_Bool (same r p)))
      (cases_Bool (s r))

  -- closing p does not matter to configurations that lead only to one another, if p is none of them
  module _ (p : A) (Away : A → Type 0) (not_p : (q : A) → Away q → same q p ≡ false) (goes_away : (q r : A) → Away q → Among (leads q) r → Away r) where
    pub run_away : (n : ℕ) (s : A → Bool) (r : A) → Away r → run n (plus s p) r ≡ run n s r
    run_away zero s r away = run_zero (plus s p) r ∙ sym (run_zero s r)
    run_away (suc n) s r away =
        ⊎_elim (λ seen. run_seen (suc n) (plus s p) r (or_right (same r p) (s r) seen) ∙ sym (run_seen (suc n) s r seen))
        (λ new. let fresh : plus s p r ≡ false = or_false (same r p) (s r) (not_p r away) new in
        ⊎_elim (λ is. run_match n (plus s p) r fresh is ∙ sym (run_match n s r new is))
        (λ goes. run_on n (plus s p) r fresh goes
        ∙ ap (option_map (λ x. r ∷ x)) (first_among_cong_in (run n (plus (plus s p) r)) (run n (plus s r)) (leads r) (λ q edge.
        run_cong n (plus (plus s p) r) (plus (plus s r) p) q (plus_swap s p r) ∙ run_away n (plus s r) q (goes_away r q away edge)))
        ∙ sym (run_on n s r new goes))
        (cases_Bool (is_match r)))
        (cases_Bool (s r))

  -- what waits on the stack: a configuration, and what a run from it is worth
  abbrev Waiting : Type 0 → Type 0
  Waiting B = A × (List A → B)

  -- the first success on the stack
  unfoldable pub pending : {B : Type 0} → ℕ → (A → Bool) → List (Waiting B) → Option B
  pending n s stack = first_among (λ w. option_map w.1 (run n s w.0)) stack

  abbrev pub waiting : {B : Type 0} → A → (List A → B) → List A → List (Waiting B)
  waiting p f [] = []
  waiting p f (q ∷ qs) = (q, λ r. f (p ∷ r)) ∷ waiting p f qs

  among_waiting : {B : Type 0} (n : ℕ) (s : A → Bool) (p : A) (f : List A → B) (qs : List A) →
      pending n s (waiting p f qs) ≡ option_map f (option_map (λ r. p ∷ r) (first_among (run n s) qs))
  unfolding pending
  among_waiting n s p f [] = refl
  among_waiting n s p f (q ∷ qs) = ap (option_or _) (among_waiting n s p f qs) ∙ map_or (run n s q) (first_among (run n s) qs) (λ r. p ∷ r) f

  pub pending-append : {B : Type 0} (n : ℕ) (s : A → Bool) (xs ys : List (Waiting B)) → pending n s (xs ++ ys) ≡ option_or (pending n s xs) (pending n s ys)
  unfolding pending
  pending-append n s xs ys = first_among-append _ xs ys

  pending_dead : {B : Type 0} (n : ℕ) (s : A → Bool) (p : A) (rest : List (Waiting B)) → run n s p ≡ None → pending n (plus s p) rest ≡ pending n s rest
  unfolding pending
  pending_dead n s p rest dead = first_among_cong _ _ rest (λ w. ap (option_map w.1) (run_dead n n s p w.0 (omega arith) dead))

  -- the configurations inside, which no edge leaves, and how many of them are unseen
  module _ (Inside : A → Type 0) (inside_on : (p q : A) → Inside p → Among (leads p) q → Inside q) (unseen : (A → Bool) → ℕ)
      (fewer : (s : A → Bool) (p : A) → Inside p → s p ≡ false → unseen (plus s p) < unseen s) where
    -- n steps are enough if at most n configurations are unseen
    pub run_enough : (n m : ℕ) (s : A → Bool) (p : A) → Inside p → unseen s ≤ n → unseen s ≤ m → run n s p ≡ run m s p
    run_enough zero zero s p ins en em = refl
    run_enough zero (suc m) s p ins en em =
        ⊎_elim (λ seen. run_seen 0 s p seen ∙ sym (run_seen (suc m) s p seen))
        (λ new. absurd (omega (arith, fewer s p ins new))) (cases_Bool (s p))
    run_enough (suc n) zero s p ins en em =
        ⊎_elim (λ seen. run_seen (suc n) s p seen ∙ sym (run_seen 0 s p seen))
        (λ new. absurd (omega (arith, fewer s p ins new))) (cases_Bool (s p))
    run_enough (suc n) (suc m) s p ins en em =
        ⊎_elim (λ seen. run_seen (suc n) s p seen ∙ sym (run_seen (suc m) s p seen))
        (λ new. ⊎_elim (λ is. run_match n s p new is ∙ sym (run_match m s p new is))
        (λ goes. run_on n s p new goes
        ∙ ap (option_map (λ r. p ∷ r)) (first_among_cong_in (run n (plus s p)) (run m (plus s p)) (leads p)
        (λ q edge. run_enough n m (plus s p) q (inside_on p q ins edge) (omega (arith, fewer s p ins new)) (omega (arith, fewer s p ins new))))
        ∙ sym (run_on m s p new goes))
        (cases_Bool (is_match p)))
        (cases_Bool (s p))

    -- one step, without a bound on steps
    pub run_step : (n : ℕ) (s : A → Bool) (p : A) → Inside p → unseen s ≤ n → s p ≡ false → is_match p ≡ false →
        run n s p ≡ option_map (λ r. p ∷ r) (first_among (run n (plus s p)) (leads p))
    run_step n s p ins enough new goes =
        run_enough n (suc n) s p ins enough (omega arith) ∙ run_on n s p new goes

    -- A new configuration is replaced by those to which it leads; the first success stays the same.
    pub pending_visit : {B : Type 0} (n : ℕ) (s : A → Bool) (p : A) (f : List A → B) (rest : List (Waiting B)) → Inside p → unseen s ≤ n →
        s p ≡ false → is_match p ≡ false →
        pending n s ((p, f) ∷ rest) ≡ pending n (plus s p) (waiting p f (leads p) ++ rest)
    unfolding pending
    pending_visit n s p f rest ins enough new goes = grind (arith, common_steps, option_map, run_step, among_waiting, or_some, pending_dead, map_none, some_or_none, pending-append)

    -- A configuration that was seen is dropped.
    pub pending_seen : {B : Type 0} (n : ℕ) (s : A → Bool) (p : A) (f : List A → B) (rest : List (Waiting B)) → s p ≡ true →
        pending n s ((p, f) ∷ rest) ≡ pending n s rest
    unfolding pending
    pending_seen n s p f rest seen = ap (λ o. option_or (option_map f o) (pending n s rest)) (run_seen n s p seen)

    -- Replacing a configuration does not disturb those before it on the stack from which no path leads to it.
    pub pending_visit_behind : {B : Type 0} (n : ℕ) (s : A → Bool) (p : A) (f : List A → B) (front rest : List (Waiting B)) → Inside p → unseen s ≤ n →
        s p ≡ false → is_match p ≡ false →
        (Away : A → Type 0) → ((q : A) → Away q → same q p ≡ false) → ((q r : A) → Away q → Among (leads q) r → Away r) →
        ((w : Waiting B) → Among front w → Away w.0) →
        pending n s (front ++ ((p, f) ∷ rest)) ≡ pending n (plus s p) (front ++ (waiting p f (leads p) ++ rest))
    unfolding pending
    pending_visit_behind n s p f front rest ins enough new goes Away not_p goes_away away =
        pending-append n s front ((p, f) ∷ rest)
        ∙ ap₂ option_or
        (first_among_cong_in _ _ front (λ w h. ap (option_map w.1) (sym (run_away p Away not_p goes_away n s w.0 (away w h)))))
        (pending_visit n s p f rest ins enough new goes)
        ∙ sym (pending-append n (plus s p) front (waiting p f (leads p) ++ rest))
