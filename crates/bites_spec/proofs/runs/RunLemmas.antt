-- On every well-formed program, cycles included, `first_run` returns what `FirstRun` specifies.
use Rattle.std.proofs.lemmas.Grind.{common_steps}
use Rattle.std.proofs.Common.{◌≡◌, ◌≢◌, ℕ, zero, suc, ◌+◌, ◌*◌, ◌<◌, ◌≤◌, Bool, true, false, cond, ◌&&◌, ◌||◌, List, [], ◌∷◌, length, map, Option, Some, None, refl, sym, ap, ap₂, ◌∙◌, subst, inl, inr, ⊎_elim, true≢false, arith, eqb-true, eq-eqb}
use Rattle.std.specs.Prelude.{nat_lt, ◌==◌, option_and_then}
use Rattle.std.proofs.lemmas.Option.{none-some, same_Some}
use Rattle.std.proofs.lemmas.Bool.{cases_Bool, and_parts}
use Rattle.bites_spec.specs.Utf8.{piece, character, AreStarts}
use Rattle.bites_spec.specs.Look.{Look, holds}
use Rattle.bites_spec.specs.Range.{in_ranges}
use Rattle.bites_spec.specs.Walks.{Among, AreOrdered, Walk, first_among, with_configuration, last_of}
use Rattle.bites_spec.specs.Walks as walks
use Rattle.bites_spec.specs.Program.{State, Program, Configuration, at, state_at, edges, targets_of, taking, looking, IsWellFormed, AreStates}
use Rattle.bites_spec.specs.Program as program
use Rattle.bites_spec.specs.Run.{Run, is_same_configuration, leads, matches, Runs, IsRun, IsFirstOf, FirstRun, enough, run_of, first_run_from, first_run}
use Rattle.bites_spec.proofs.utf8.PieceLemmas.{piece_within}
use Rattle.bites_spec.proofs.utf8.StartLemmas.{starts_rise, start_lies}
use Rattle.bites_spec.proofs.runs.FirstLemmas.{or_cases, or_none, Apart-of, sound, first, none_at_all, Apart-simple}

pub same_is : (s t : Configuration) → is_same_configuration s t ≡ true → s ≡ t
same_is s t e = grind (arith, common_steps, and_parts)

pub same_refl : (s : Configuration) → is_same_configuration s s ≡ true
same_refl s = ap₂ ◌&&◌ (eq-eqb s.state s.state refl) (eq-eqb s.place s.place refl)

-- the sum of f over the numbers below n
pub total : ℕ → (ℕ → ℕ) → ℕ
total zero f = 0
total (suc n) f = f n + total n f

total_le : (n : ℕ) (f g : ℕ → ℕ) → ((k : ℕ) → g k ≤ f k) → total n g ≤ total n f
unfolding total
total_le zero f g le = omega arith
total_le (suc n) f g le = omega (arith, le n, total_le n f g le)

total_less : (n : ℕ) (f g : ℕ → ℕ) → ((k : ℕ) → g k ≤ f k) → (k : ℕ) → k < n → g k < f k → total n g < total n f
unfolding total
total_less zero f g le k lt less = absurd (omega arith)
total_less (suc n) f g le k lt less =
    ⊎_elim (λ (b : (k == n) ≡ true). let e = eqb-true k n b in
    let here : g n < f n = subst (λ x. g x < f x) e less in omega (arith, total_le n f g le, here))
    (λ (b : (k == n) ≡ false). let other : k ≢ n = (λ e. true≢false (sym (eq-eqb k n e) ∙ b)) in
    let below : k < n = omega (arith, other) in omega (arith, total_less n f g le k below less, le n))
    (cases_Bool (k == n))

total_bound : (n c : ℕ) (f : ℕ → ℕ) → ((k : ℕ) → f k ≤ c) → total n f ≤ n * c
unfolding total
total_bound zero c f le = omega arith
total_bound (suc n) c f le = grind (arith, common_steps, (total_bound n c f le))

Among-map : (qs : List ℕ) (i : ℕ) (t : Configuration) → Among (map (λ q. at q i) qs) t → Among qs t.state × (t.place ≡ i)
Among-map [] i t h = absurd h
Among-map (q ∷ qs) i t h =
    ⊎_elim (λ (is : at q i ≡ t). (inl (ap (λ s. s.state) is), sym (ap (λ s. s.place) is)))
    (λ later. let r = Among-map qs i t later in (inr r.0, r.1)) h

-- the targets of each state are below the number of states
states_at : (len slots : ℕ) (ss : List State) (q : ℕ) → AreStates len slots ss → (t : ℕ) → Among (targets_of (state_at ss q)) t → t < len
states_at len slots [] q are t h = absurd h
states_at len slots (s ∷ ss) zero are t h = are.0 t h
states_at len slots (s ∷ ss) (suc q) are t h = states_at len slots ss q are.3 t h

module _ (p : Program) (hay : List ℕ) where
  pub match_ends : (s : Configuration) → matches p s ≡ true → leads p hay s ≡ []
  match_ends s = grind (arith, common_steps)

  -- a configuration of the program and the haystack
  abbrev pub Inside : Configuration → Type 0
  Inside s = (s.state < length p.states) × (s.place ≤ length hay)

  taking_to : (test : ℕ → Bool) (q i : ℕ) (t : Configuration) → i ≤ length hay → Among (taking hay test q i) t → (t.state ≡ q) × (t.place ≤ length hay)
  taking_to test q i t le h =
      ⊎_elim
      (λ is. ⊎_elim (λ (e : at q (i + (piece hay i).len) ≡ t). (sym (ap (λ s. s.state) e), subst (λ s. s.place ≤ length hay) e (piece_within hay i le)))
      (λ (no : ⊥). absurd no)
      (subst (λ b. Among (cond b (at q (i + (piece hay i).len) ∷ []) []) t) is h))
      (λ is. absurd (subst (λ b. Among (cond b (at q (i + (piece hay i).len) ∷ []) []) t) is h))
      (cases_Bool (nat_lt 0 (piece hay i).len && test (character (piece hay i))))

  looking_to : (look : Option Look) (q i : ℕ) (t : Configuration) → Among (looking hay look q i) t → (t.state ≡ q) × (t.place ≡ i)
  looking_to None q i t h =
      ⊎_elim (λ (e : at q i ≡ t). (sym (ap (λ s. s.state) e), sym (ap (λ s. s.place) e))) (λ (no : ⊥). absurd no) h
  looking_to (Some l) q i t h =
      ⊎_elim
      (λ is. ⊎_elim (λ (e : at q i ≡ t). (sym (ap (λ s. s.state) e), sym (ap (λ s. s.place) e))) (λ (no : ⊥). absurd no)
      (subst (λ b. Among (cond b (at q i ∷ []) []) t) is h))
      (λ is. absurd (subst (λ b. Among (cond b (at q i ∷ []) []) t) is h))
      (cases_Bool (holds l hay i))

  -- each edge goes to a target, and stays in the haystack
  edge_to : (st : State) (i : ℕ) (t : Configuration) → i ≤ length hay → Among (edges hay st i) t → Among (targets_of st) t.state × (t.place ≤ length hay)
  edge_to (program.char q c) i t le h = let r = taking_to (λ d. d == c) q i t le h in (inl (sym r.0), r.1)
  edge_to (program.ranges q rs) i t le h = let r = taking_to (in_ranges rs) q i t le h in (inl (sym r.0), r.1)
  edge_to (program.splits qs b) i t le h =
      let r = Among-map (targets_of (program.splits qs b)) i t h in (r.0, omega (arith, r.1))
  edge_to (program.goto q l) i t le h = let r = looking_to l q i t h in (inl (sym r.0), omega (arith, r.1))
  edge_to (program.capture q k) i t le h =
      ⊎_elim (λ (e : at q i ≡ t). (inl (ap (λ s. s.state) e), subst (λ s. s.place ≤ length hay) e le)) (λ (no : ⊥). absurd no) h
  edge_to program.fail i t le h = absurd h
  edge_to program.match i t le h = absurd h

  -- how many configurations are unseen
  pub unseen : (Configuration → Bool) → ℕ
  unseen s = total (length p.states) (λ q. total (suc (length hay)) (λ i. cond (s (at q i)) 0 1))

  one_le : (b : Bool) → cond b 0 1 ≤ 1
  one_le true = omega arith
  one_le false = omega arith

  less_seen : (a b : Bool) → cond (a || b) 0 1 ≤ cond b 0 1
  less_seen true true = omega arith
  less_seen true false = omega arith
  less_seen false b = omega arith

  pub fewer : (s : Configuration → Bool) (t : Configuration) → Inside t → s t ≡ false → unseen (with_configuration is_same_configuration (leads p hay) (matches p) s t) < unseen s
  unfolding unseen
  fewer s t inside new =
      total_less (length p.states) _ _
      (λ q. total_le (suc (length hay)) _ _ (λ i. less_seen (is_same_configuration (at q i) t) (s (at q i))))
      t.state inside.0
      (total_less (suc (length hay)) _ _ (λ i. less_seen (is_same_configuration (at t.state i) t) (s (at t.state i))) t.place (omega (arith, inside.1))
      (here (is_same_configuration t t) (s t) (same_refl t) new))
    where
      here : (a b : Bool) → a ≡ true → b ≡ false → cond (a || b) 0 1 < cond b 0 1
      here a b e f = rw (e, f) (omega arith)

  pub enough_for_all : (s : Configuration → Bool) → unseen s ≤ enough p hay
  unfolding unseen
  enough_for_all s =
      omega (
        arith,
        total_bound (length p.states) (suc (length hay)) (λ q. total (suc (length hay)) (λ i. cond (s (at q i)) 0 1))
            (λ q. one_row q),
      )
    where
      one_row : (q : ℕ) → total (suc (length hay)) (λ i. cond (s (at q i)) 0 1) ≤ suc (length hay)
      one_row q = omega (arith, total_bound (suc (length hay)) 1 (λ i. cond (s (at q i)) 0 1) (λ i. one_le (s (at q i))), times_one (suc (length hay)))
        where
          times_one : (n : ℕ) → n * 1 ≡ n
          times_one n = grind arith

  module _ (well : IsWellFormed p) where
    pub inside_on : (s t : Configuration) → Inside s → Among (leads p hay s) t → Inside t
    inside_on s t inside h = grind (arith, common_steps, edge_to, states_at)

Walk-ends : (p : Program) (hay : List ℕ) (s : Configuration) (r : List Configuration) → Walk (leads p hay) (λ q. matches p q ≡ true) s r →
    Runs p hay s r (last_of s r).place
Walk-ends p hay s [] walk = (walk, refl)
Walk-ends p hay s (t ∷ r) walk = (walk.0, Walk-ends p hay t r walk.1)

Runs-walk : (p : Program) (hay : List ℕ) (s : Configuration) (r : List Configuration) (j : ℕ) → Runs p hay s r j →
    Walk (leads p hay) (λ q. matches p q ≡ true) s r
Runs-walk p hay s [] j runs = runs.0
Runs-walk p hay s (t ∷ r) j runs = (runs.0, Runs-walk p hay t r j runs.1)

-- the first place at which f succeeds
pub record FirstPlace {B : Type 0} (f : ℕ → Option B) (ps : List ℕ) (r : B) : Type 0 where
  pub place : ℕ
  pub among : Among ps place
  pub is : f place ≡ Some r
  pub none_before : (k : ℕ) → Among ps k → k < place → f k ≡ None

pub first_place : {B : Type 0} (f : ℕ → Option B) (ps : List ℕ) (r : B) → AreOrdered (λ i j. i < j) ps → first_among f ps ≡ Some r → FirstPlace f ps r
first_place f [] r rise e = absurd (none-some r e)
first_place f (s ∷ ps) r rise e =
    ⊎_elim
    (λ (now : f s ≡ Some r). record {
      place = s;
      among = inl refl;
      is = now;
      none_before = λ k h lt. ⊎_elim (λ (e : s ≡ k). absurd (omega (arith, e))) (λ later. let above = rise.0 k later in absurd (omega (arith, above))) h;
    })
    (λ later. let more = first_place f ps r rise.1 later.1 in record {
      place = more.place;
      among = inr more.among;
      is = more.is;
      none_before = λ k h lt. ⊎_elim (λ (e : s ≡ k). subst (λ x. f x ≡ None) e later.0) (λ h. more.none_before k h lt) h;
    })
    (or_cases (f s) (first_among f ps) r e)

pub no_place : {B : Type 0} (f : ℕ → Option B) (ps : List ℕ) → first_among f ps ≡ None → (k : ℕ) → Among ps k → f k ≡ None
no_place f [] e k h = absurd h
no_place f (q ∷ ps) e k h =
    let both = or_none (f q) (first_among f ps) e in
    ⊎_elim (λ (is : q ≡ k). subst (λ x. f x ≡ None) is both.0) (λ later. no_place f ps both.1 k later) h

module _ (p : Program) (hay : List ℕ) (well : IsWellFormed p) where
  abbrev found_from : ℕ → Option (List Configuration)
  found_from i = walks.first_walk is_same_configuration (leads p hay) (matches p) (enough p hay) (λ s. false) (at p.start i)

  -- the run that is found is simple, and the first one
  pub record FoundFrom (i : ℕ) (r : Run) : Type 0 where
    pub start : r.start ≡ i
    pub runs : IsRun p hay r.start r.configurations r.end
    pub first_of : IsFirstOf p hay (λ j. Unit {0}) r

  starts : (i : ℕ) → i ≤ length hay → Inside p hay (at p.start i)
  starts i le = (well.start, le)

  found_is : (i : ℕ) (r : Run) (o : Option (List Configuration)) → found_from i ≡ o → option_and_then (run_of p hay i) o ≡ Some r → i ≤ length hay → FoundFrom i r
  found_is i r None is e le = absurd (none-some r e)
  found_is i r (Some l) is e le =
      let h = sound is_same_configuration (leads p hay) (matches p) same_is same_refl (match_ends p hay) (enough p hay) (λ s. false) (at p.start i) l is in
      let same : record { start = i; configurations = h.0; end = (last_of (at p.start i) h.0).place } ≡ r =
      same_Some _ _ (sym (ap (run_of p hay i) h.1) ∙ e) in
      subst (λ r. FoundFrom i r) same record {
        start = refl;
        runs = Walk-ends p hay (at p.start i) h.0 h.2;
        first_of = record {
          simple = Apart-simple is_same_configuration (leads p hay) (matches p) same_is same_refl (match_ends p hay) (λ s. false) (at p.start i) h.0 h.3;
          first = λ o j runs simple wanted.
              first is_same_configuration (leads p hay) (matches p) same_is same_refl (match_ends p hay)
              (Inside p hay) (inside_on p hay well) (unseen p hay) (fewer p hay) (enough p hay) (λ s. false) (at p.start i) h.0
              (starts i le) (enough_for_all p hay (λ s. false)) (is ∙ ap Some h.1) o (Runs-walk p hay (at p.start i) o j runs)
              (Apart-of is_same_configuration (leads p hay) (matches p) same_is same_refl (match_ends p hay) (λ s. false) (at p.start i) o simple (λ q h. refl));
        };
      }

  none_is : (i : ℕ) (o : Option (List Configuration)) → found_from i ≡ o → option_and_then (run_of p hay i) o ≡ None → i ≤ length hay →
      (r : List Configuration) (j : ℕ) → IsRun p hay i r j → ⊥
  none_is i None is e le r j runs =
      none_at_all is_same_configuration (leads p hay) (matches p) same_is same_refl (match_ends p hay)
      (Inside p hay) (inside_on p hay well) (unseen p hay) (fewer p hay) (enough p hay) (λ s. false) (at p.start i)
      (starts i le) (enough_for_all p hay (λ s. false)) is (λ q. refl) r (Runs-walk p hay (at p.start i) r j runs)
  none_is i (Some l) is e le r j runs =
      let h = sound is_same_configuration (leads p hay) (matches p) same_is same_refl (match_ends p hay) (enough p hay) (λ s. false) (at p.start i) l is in
      absurd (none-some _ (sym e ∙ ap (run_of p hay i) h.1))

  -- from each place: a first simple run, or none at all
  pub found_from_some : (i : ℕ) (r : Run) → first_run_from p hay i ≡ Some r → i ≤ length hay → FoundFrom i r
  unfolding first_run_from
  found_from_some i r e le = found_is i r (found_from i) refl e le

  pub found_from_none : (i : ℕ) → first_run_from p hay i ≡ None → i ≤ length hay → (r : List Configuration) (j : ℕ) → IsRun p hay i r j → ⊥
  unfolding first_run_from
  found_from_none i e le = none_is i (found_from i) refl e le

  module _ (s : ℕ) (ps : List ℕ) (are : AreStarts hay s ps) where
    within : (i : ℕ) → Among ps i → i ≤ length hay
    within i h = (start_lies hay s ps are i h).1

    first_run_is : (o : Option Run) → first_run p hay ps ≡ o → FirstRun p hay ps o
    unfolding first_run
    first_run_is None e = λ i h. found_from_none i (no_place (first_run_from p hay) _ e i h) (within i h)
    first_run_is (Some r) e =
        let at_first = first_place (first_run_from p hay) ps r (starts_rise hay s ps are) e in
        let from = found_from_some at_first.place r at_first.is (within at_first.place at_first.among) in (
          record {
            runs = from.runs;
            from = subst (λ i. Among ps i) (sym from.start) at_first.among;
            none_before = λ i h lt. found_from_none i (at_first.none_before i h (omega (arith, lt, from.start))) (within i h);
          },
          from.first_of,
        )

    -- `first_run` is None where no start has a run; else it is the first simple run from the first start that has one
    pub first_run-FirstRun : FirstRun p hay ps (first_run p hay ps)
    first_run-FirstRun = first_run_is (first_run p hay ps) refl
