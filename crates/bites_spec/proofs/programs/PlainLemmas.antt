-- Where the runs from a configuration are bounded, each is simple, and the first simple run is the head of their list.
use Rattle.std.proofs.lemmas.Grind.{common_steps}
use Rattle.std.proofs.Common.{◌≡◌, ◌≢◌, ℕ, zero, suc, ◌<◌, ◌≤◌, Bool, true, false, cond, List, [], ◌∷◌, ◌++◌, map, length, length-append, Option, Some, None, option_map, refl, sym, ap, ap₂, ◌∙◌, subst, inl, inr, ⊎_elim, true≢false, arith, ◌⊎◌}
use Rattle.std.specs.Prelude.{if◌then◌else◌, flat_map}
use Rattle.std.specs.Option.{option_or}
use Rattle.std.proofs.lemmas.Option.{none-some, same_Some}
use Rattle.std.proofs.lemmas.Bool.{cases_Bool}
use Rattle.bites_spec.specs.Walks.{Among, AllApart, Earlier, Walk, Before, first_among, last_of}
use Rattle.bites_spec.specs.Program.{Program, Configuration, state_at}
use Rattle.bites_spec.specs.Run.{leads, matches, Runs, writes, write_of}
use Rattle.bites_spec.proofs.runs.FirstLemmas.{or_cases, or_none, map_some}
use Rattle.bites_spec.proofs.runs.RunLemmas.{same_is, same_refl, match_ends}
use Rattle.bites_spec.proofs.programs.OrderLemmas.{Tour, before, runs_within, AreRuns}
use Rattle.bites_spec.proofs.runs.WalkLemmas.{map_none}

configuration_cases : (x y : Configuration) → (x ≡ y) ⊎ (x ≢ y)
configuration_cases x y = grind (arith, common_steps, same_is, true≢false, same_refl)

-- an element does not come earlier than itself
pub Earlier-differ : {A : Type 0} (xs : List A) (a b : A) → Earlier xs a b → a ≢ b
Earlier-differ [] a b h e = h
Earlier-differ (x ∷ xs) a b h e = ⊎_elim (λ now. now.1 (now.0 ∙ e)) (λ later. Earlier-differ xs a b later.2 e) h

Earlier-asym : {A : Type 0} (xs : List A) (a b : A) → Earlier xs a b → Earlier xs b a → ⊥
Earlier-asym [] a b h g = h
Earlier-asym (x ∷ xs) a b h g =
    ⊎_elim
    (λ now. ⊎_elim (λ also. also.1 now.0) (λ later. later.1 now.0) g)
    (λ later. ⊎_elim (λ also. later.1 also.0) (λ more. Earlier-asym xs a b later.2 more.2) g) h

pub Before-asym : {A : Type 0} (leads : A → List A) (s : A) (a b : List A) → Before leads s a b → Before leads s b a → ⊥
Before-asym leads s [] b h g = h
Before-asym leads s (x ∷ a) [] h g = h
Before-asym leads s (x ∷ a) (y ∷ b) h g =
    ⊎_elim
    (λ early. ⊎_elim (λ late. Earlier-asym (leads s) x y early late) (λ same. Earlier-differ (leads s) x y early (sym same.0)) g)
    (λ same. ⊎_elim (λ late. Earlier-differ (leads s) y x late (sym same.0))
    (λ also. Before-asym leads x a b same.1 (subst (λ z. Before leads z b a) (sym same.0) also.1)) g) h

-- the first of the list whose end passes the test
abbrev pub pick : (ℕ → Bool) → List Tour → Option Tour
pick ok [] = None
pick ok (x ∷ xs) = if ok x.end then Some x else pick ok xs

pick-append : (ok : ℕ → Bool) (xs ys : List Tour) → pick ok (xs ++ ys) ≡ option_or (pick ok xs) (pick ok ys)
pick-append ok [] ys = refl
pick-append ok (x ∷ xs) ys = grind (arith, common_steps, (pick-append ok xs ys))

pick-map : (ok : ℕ → Bool) (ws : List (ℕ × ℕ)) (xs : List Tour) → pick ok (map (before ws) xs) ≡ option_map (before ws) (pick ok xs)
pick-map ok ws [] = refl
pick-map ok ws (x ∷ xs) = grind (arith, common_steps, before, option_map, (pick-map ok ws xs))

pick-flat_map : {A : Type 0} (ok : ℕ → Bool) (f : A → List Tour) (xs : List A) → pick ok (flat_map f xs) ≡ first_among (λ x. pick ok (f x)) xs
pick-flat_map ok f [] = refl
pick-flat_map ok f (x ∷ xs) = pick-append ok (f x) (flat_map f xs) ∙ ap (option_or (pick ok (f x))) (pick-flat_map ok f xs)

-- where the first success is, and how each other element stands to it
record FirstOf {B : Type 0} (f : Configuration → Option B) (xs : List Configuration) (r : B) : Type 0 where
  found : Configuration
  is : f found ≡ Some r
  among : Among xs found
  others : (y : Configuration) → Among xs y → (y ≡ found) ⊎ (Earlier xs found y ⊎ (f y ≡ None))

first_of : {B : Type 0} (f : Configuration → Option B) (xs : List Configuration) (r : B) → first_among f xs ≡ Some r → FirstOf f xs r
first_of f [] r e = absurd (none-some r e)
first_of f (x ∷ xs) r e =
    ⊎_elim
    (λ (now : f x ≡ Some r). record {
      found = x;
      is = now;
      among = inl refl;
      others = λ y h. ⊎_elim (λ (is : x ≡ y). inl (sym is))
          (λ (later : Among xs y). ⊎_elim (λ (is : x ≡ y). inl (sym is)) (λ (apart : x ≢ y). inr (inl (inl (refl, apart, later)))) (configuration_cases x y)) h;
    })
    (λ later. let m = first_of f xs r later.1 in record {
      found = m.found;
      is = m.is;
      among = inr m.among;
      others = λ y h. ⊎_elim (λ (is : x ≡ y). inr (inr (subst (λ z. f z ≡ None) is later.0)))
          (λ (more : Among xs y).
          ⊎_elim (λ same. inl same)
          (⊎_elim
          (λ early. ⊎_elim (λ (is : x ≡ y). inr (inr (subst (λ z. f z ≡ None) is later.0)))
          (λ (apart : x ≢ y). inr (inl (inr (λ is. none-some r (sym later.0 ∙ ap f is ∙ m.is), apart, early)))) (configuration_cases x y))
          (λ none. inr (inr none)))
          (m.others y more)) h;
    })
    (or_cases (f x) (first_among f xs) r e)

none_of : {B : Type 0} (f : Configuration → Option B) (xs : List Configuration) → first_among f xs ≡ None → (y : Configuration) → Among xs y → f y ≡ None
none_of f [] e y h = absurd h
none_of f (x ∷ xs) e y h =
    let both = or_none (f x) (first_among f xs) e in
    ⊎_elim (λ (is : x ≡ y). subst (λ z. f z ≡ None) is both.0) (λ later. none_of f xs both.1 y later) h

module _ (p : Program) (hay : List ℕ) where
  cycle_join : (s t : Configuration) (c b : List Configuration) (j : ℕ) → Walk (leads p hay) (λ u. u ≡ t) s c → Runs p hay t b j → Runs p hay s (c ++ b) j
  cycle_join s t [] b j walk runs = subst (λ (x : Configuration). Runs p hay x b j) (sym walk) runs
  cycle_join s t (x ∷ c) b j walk runs = (walk.0, cycle_join x t c b j walk.1 runs)

  -- a run that reaches t is a walk to t and a run from there
  split_at : (s t : Configuration) (r : List Configuration) (j : ℕ) → Runs p hay s r j → Among r t →
      (c : List Configuration) × (b : List Configuration) × Walk (leads p hay) (λ u. u ≡ t) s c × Runs p hay t b j × (1 ≤ length c)
  split_at s t [] j runs h = absurd h
  split_at s t (x ∷ r) j runs h =
      ⊎_elim (λ (e : x ≡ t). (x ∷ [], r, (runs.0, e), subst (λ (y : Configuration). Runs p hay y r j) e runs.1, omega arith))
      (λ later. let m = split_at x t r j runs.1 later in (x ∷ m.0, m.1, (runs.0, m.2), m.3, omega arith)) h

  -- a cycle can be passed any number of times
  pump : (s : Configuration) (c b : List Configuration) (j : ℕ) → Walk (leads p hay) (λ u. u ≡ s) s c → 1 ≤ length c → Runs p hay s b j → (n : ℕ) →
      (o : List Configuration) × Runs p hay s o j × (n ≤ length o)
  pump s c b j walk some runs zero = (b, runs, omega arith)
  pump s c b j walk some runs (suc n) =
      let m = pump s c b j walk some runs n in
      (c ++ m.0, cycle_join s s c m.0 j walk m.1, omega (arith, m.2, length-append c m.0))

  -- where the runs are bounded, no configuration comes twice on a run
  pub simple : (s : Configuration) (bound : ℕ) → ((r : List Configuration) (j : ℕ) → Runs p hay s r j → length r < bound) → (r : List Configuration) (j : ℕ) → Runs p hay s r j →
      AllApart (s ∷ r)
  simple s bound short [] j runs = (λ h. h, tt)
  simple s bound short (t ∷ r) j runs = (
    λ h. let m = split_at s s (t ∷ r) j runs h in
        let long = pump s m.0 m.1 j m.2 m.4 m.3 bound in
        absurd (omega (arith, long.2, short long.0 j long.1)),
    simple t bound (λ o k more. omega (arith, short (t ∷ o) k (runs.0, more))) r j runs.1,
  )

  abbrev Goes : Configuration → List Configuration → Type 0
  Goes s r = Walk (leads p hay) (λ q. matches p q ≡ true) s r

  abbrev pub tour : Configuration → List Configuration → Tour
  tour s r = record { end = (last_of s r).place; writes = writes p s r }

  within_match : (n : ℕ) (s : Configuration) → matches p s ≡ true → runs_within p hay (suc n) s ≡ record { end = s.place; writes = [] } ∷ []
  unfolding runs_within
  within_match n s is = rw is refl

  within_step : (n : ℕ) (s : Configuration) → matches p s ≡ false → runs_within p hay (suc n) s
      ≡ flat_map (λ t. map (before (write_of (state_at p.states s.state) s.place)) (runs_within p hay n t)) (leads p hay s)
  unfolding runs_within
  within_step n s goes = rw goes refl

  within_zero : (s : Configuration) → runs_within p hay 0 s ≡ []
  unfolding runs_within
  within_zero s = refl

  goes_of : (s : Configuration) (r : List Configuration) (j : ℕ) → Runs p hay s r j → Goes s r
  goes_of s [] j runs = runs.0
  goes_of s (t ∷ r) j runs = (runs.0, goes_of t r j runs.1)

  runs_of : (s : Configuration) (r : List Configuration) → Goes s r → Runs p hay s r (last_of s r).place
  runs_of s [] goes = (goes, refl)
  runs_of s (t ∷ r) goes = (goes.0, runs_of t r goes.1)

  pub ends_at : (s : Configuration) (r : List Configuration) (j : ℕ) → Runs p hay s r j → (last_of s r).place ≡ j
  ends_at s [] j runs = runs.1
  ends_at s (t ∷ r) j runs = ends_at t r j runs.1

  -- only runs whose end passes a test count
  module _ (ok : ℕ → Bool) where
    abbrev Passes : Configuration → List Configuration → Type 0
    Passes s q = ok (last_of s q).place ≡ true

    abbrev step_writes : Configuration → List (ℕ × ℕ)
    step_writes s = write_of (state_at p.states s.state) s.place

    abbrev inner : ℕ → Configuration → Configuration → Option Tour
    inner n s t = pick ok (map (before (step_writes s)) (runs_within p hay n t))

    head_step : (n : ℕ) (s : Configuration) → matches p s ≡ false → pick ok (runs_within p hay (suc n) s) ≡ first_among (inner n s) (leads p hay s)
    head_step n s goes =
        ap (pick ok) (within_step n s goes) ∙ pick-flat_map ok (λ t. map (before (step_writes s)) (runs_within p hay n t)) (leads p hay s)

    none_within : (n : ℕ) (s : Configuration) → pick ok (runs_within p hay n s) ≡ None → (q : List Configuration) → Goes s q → Passes s q → length q < n → ⊥
    none_within zero s e q goes passes lt = absurd (omega arith)
    none_within (suc n) s e [] walk passes lt =
        none-some _ (sym e ∙ ap (pick ok) (within_match n s walk) ∙ ap (λ b. cond b (Some (record { end = s.place; writes = [] })) None) passes)
    none_within (suc n) s e (t ∷ q) walk passes lt =
        ⊎_elim (λ (is : matches p s ≡ true). subst (λ (xs : List Configuration). Among xs t) (match_ends p hay s is) walk.0)
        (λ (goes : matches p s ≡ false).
        none_within n t
        (map_none (before (step_writes s)) (pick ok (runs_within p hay n t))
        (sym (pick-map ok (step_writes s) (runs_within p hay n t)) ∙ none_of (inner n s) (leads p hay s) (sym (head_step n s goes) ∙ e) t walk.0))
        q walk.1 passes (omega arith))
        (cases_Bool (matches p s))

    -- the head of the list is a run that counts, and no other that counts comes before it
    record HeadRun (n : ℕ) (s : Configuration) (o : Tour) : Type 0 where
      run : List Configuration
      goes : Goes s run
      passes : Passes s run
      same : tour s run ≡ o
      first : (q : List Configuration) → Goes s q → Passes s q → length q < n → (q ≡ run) ⊎ Before (leads p hay) s run q

    head_run : (n : ℕ) (s : Configuration) (o : Tour) → pick ok (runs_within p hay n s) ≡ Some o → HeadRun n s o
    head_run zero s o e = absurd (none-some o (sym (ap (pick ok) (within_zero s)) ∙ e))
    head_run (suc n) s o e =
        ⊎_elim
        (λ (is : matches p s ≡ true).
        let at = picked_one (ok s.place) refl (sym (ap (pick ok) (within_match n s is)) ∙ e) in record {
          run = [];
          goes = is;
          passes = at.0;
          same = at.1;
          first = at_match is;
        })
        (λ (on : matches p s ≡ false).
        let f = first_of (inner n s) (leads p hay s) o (sym (head_step n s on) ∙ e) in
        let by = map_some (before (step_writes s)) (pick ok (runs_within p hay n f.found)) o
        (sym (pick-map ok (step_writes s) (runs_within p hay n f.found)) ∙ f.is) in
        let more = head_run n f.found by.0 by.1 in
        record {
          run = f.found ∷ more.run;
          goes = (f.among, more.goes);
          passes = more.passes;
          same = ap (before (step_writes s)) more.same ∙ by.2;
          first = λ q goes passes lt. others q on f more goes passes lt;
        })
        (cases_Bool (matches p s))
      where
        picked_one : (b : Bool) → ok s.place ≡ b → cond (ok s.place) (Some (record { end = s.place; writes = [] })) None ≡ Some o →
            (ok s.place ≡ true) × (record { end = s.place; writes = [] } ≡ o)
        picked_one true is h = (is, same_Some _ _ (sym (ap (λ b. cond b (Some (record { end = s.place; writes = [] })) None) is) ∙ h))
        picked_one false is h = absurd (none-some o (sym (ap (λ b. cond b (Some (record { end = s.place; writes = [] })) None) is) ∙ h))

        at_match : matches p s ≡ true → (q : List Configuration) → Goes s q → Passes s q → length q < suc n → (q ≡ []) ⊎ Before (leads p hay) s [] q
        at_match is [] goes passes lt = inl refl
        at_match is (t ∷ q) goes passes lt = absurd (subst (λ (xs : List Configuration). Among xs t) (match_ends p hay s is) goes.0)

        others : (q : List Configuration) → matches p s ≡ false → (f : FirstOf (inner n s) (leads p hay s) o) → {u : Tour} → (more : HeadRun n f.found u) →
            Goes s q → Passes s q → length q < suc n → (q ≡ f.found ∷ more.run) ⊎ Before (leads p hay) s (f.found ∷ more.run) q
        others [] on f more goes passes lt = absurd (true≢false (sym goes ∙ on))
        others (y ∷ q) on f more goes passes lt =
            ⊎_elim
            (λ (is : y ≡ f.found).
            ⊎_elim (λ eq. inl (ap₂ ◌∷◌ is eq)) (λ bef. inr (inr (sym is, bef)))
            (more.first q (subst (λ (x : Configuration). Goes x q) is goes.1) (subst (λ (x : Configuration). Passes x q) is passes) (omega arith)))
            (⊎_elim
            (λ early. inr (inl early))
            (λ none. absurd (none_within n y
            (map_none (before (step_writes s)) (pick ok (runs_within p hay n y)) (sym (pick-map ok (step_writes s) (runs_within p hay n y)) ∙ none))
            q goes.1 passes (omega arith))))
            (f.others y goes.0)

    -- The first simple run that counts is the first one in the list of all runs that counts.
    pub first_is_head : (s : Configuration) (all : List Tour) (r : List Configuration) (j : ℕ) → AreRuns p hay s all → Runs p hay s r j → ok j ≡ true →
        ((o : List Configuration) (k : ℕ) → Runs p hay s o k → AllApart (s ∷ o) → ok k ≡ true → (o ≡ r) ⊎ Before (leads p hay) s r o) →
        pick ok all ≡ Some (tour s r)
    first_is_head s all r j are runs counts first = at_head (pick ok all) refl
      where
        passes : Passes s r
        passes = subst (λ k. ok k ≡ true) (sym (ends_at s r j runs)) counts

        at_head : (h : Option Tour) → pick ok all ≡ h → pick ok all ≡ Some (tour s r)
        at_head None e =
            absurd (none_within are.bound s (ap (pick ok) (are.are are.bound (omega arith)) ∙ e) r (goes_of s r j runs) passes (are.short r j runs))
        at_head (Some o) e =
            let h = head_run are.bound s o (ap (pick ok) (are.are are.bound (omega arith)) ∙ e) in
            let theirs = runs_of s h.run h.goes in
            let same : h.run ≡ r =
            ⊎_elim (λ (eq : h.run ≡ r). eq)
            (λ bef. ⊎_elim (λ (eq : r ≡ h.run). sym eq) (λ also. absurd (Before-asym (leads p hay) s r h.run bef also))
            (h.first r (goes_of s r j runs) passes (are.short r j runs)))
            (first h.run (last_of s h.run).place theirs (simple s are.bound are.short h.run (last_of s h.run).place theirs) h.passes) in
            e ∙ ap Some (sym h.same ∙ ap (tour s) same)
