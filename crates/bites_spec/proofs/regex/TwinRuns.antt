-- Searches of two programs that hold the same tree find runs with the same spans and writes.
use Rattle.std.proofs.Common.{◌≡◌, ℕ, zero, suc, ◌+◌, ◌*◌, ◌<◌, ◌≤◌, Bool, true, false, cond, ◌&&◌, List, [], ◌∷◌, ◌++◌, reverse, length, map, Option, ◌⊎◌, Some, None, option_map, refl, sym, ap, ap₂, ◌∙◌, subst, inl, inr, ⊎_elim, true≢false, arith, eq-eqb, ne_eqb, eqb-true, ltb-true, lt-ltb}
use Rattle.std.specs.Prelude.{◌==◌, ◌||◌, nat_lt, option_and_then, chars}
use Rattle.std.specs.Option.{option_or}
use Rattle.std.specs.List.{range_with_len}
use Rattle.bites_spec.specs.Utf8.{piece, character}
use Rattle.bites_spec.specs.Range.{in_ranges}
use Rattle.bites_spec.specs.Look.{holds}
use Rattle.bites_spec.specs.Walks.{Among, IsNew, AllApart, first_among, with_configuration, first_walk, last_of}
use Rattle.bites_spec.specs.Tree.{Tree, group}
use Rattle.bites_spec.specs.Program as program
use Rattle.bites_spec.specs.Program.{State, Program, Configuration, at, state_at, edges, is_match, IsWellFormed}
use Rattle.bites_spec.specs.Run.{Run, run, is_same_configuration, write_of, last_write, matches, is_end_at, writes, written, slots, leads, enough, run_of, first_run_from, first_run, first_run_to, longest_run_below, longest_run, chosen_run}
use Rattle.bites_spec.specs.Slots.{slot_in, span_between, span_of_run}
use Rattle.bites_spec.specs.Built.{Built, IsCompilable}
use Rattle.bites_spec.specs.Regex.{span_at, slots_at}
use Rattle.bites_spec.specs.Pattern.{Flags}
use Rattle.bites_spec.specs.Grammar.{Reads}
use Rattle.bites_spec.specs.GroupLaws.{AnswerAlike, KeptAnswerAlike}
use Rattle.std.proofs.lemmas.List.{map-append, map-id, length-map, reverse-append, get_or_past}
use Rattle.std.proofs.lemmas.Bool.{cases_Bool}
use Rattle.bites_spec.proofs.regex.TwinForms.{renamed, Twin, Pairs, twin, same_form}
use Rattle.std.proofs.lemmas.List.FromFn.{length-range_with_len}
use Rattle.bites_spec.proofs.programs.ListedLemmas.{Among-under}
use Rattle.bites_spec.proofs.programs.ListedRunLemmas.{Among-map, unit_if, all_apart, some_counted, counted_some, counts}
use Rattle.bites_spec.proofs.regex.PartCountLemmas.{apart_length, among_first}
use Rattle.bites_spec.proofs.runs.ValueLemmas.{slots_are_written, less_or_not}
use Rattle.bites_spec.proofs.grammar.WholeOnce.{reads_once}

or_map : {A B : Type 0} (v : A → B) (o p : Option A) → option_or (option_map v o) (option_map v p) ≡ option_map v (option_or o p)
or_map v None p = refl
or_map v (Some x) p = refl

first_map : {A B C D : Type 0} (u : A → C) (v : B → D) (f : A → Option B) (g : C → Option D) → ((x : A) → g (u x) ≡ option_map v (f x)) → (xs : List A) →
    first_among g (map u xs) ≡ option_map v (first_among f xs)
first_map u v f g each [] = refl
first_map u v f g each (x ∷ xs) = ap₂ option_or (each x) (first_map u v f g each xs) ∙ or_map v (f x) (first_among f xs)

reverse-map : (f : ℕ → ℕ) (xs : List ℕ) → reverse (map f xs) ≡ map f (reverse xs)
reverse-map f [] = refl
reverse-map f (x ∷ xs) =
    reverse-append (f x ∷ []) (map f xs) ∙ ap (λ l. l ++ f x ∷ []) (reverse-map f xs) ∙ sym (map-append f (reverse xs) (x ∷ []))
    ∙ ap (map f) (sym (reverse-append (x ∷ []) xs))

-- the second program's states are the first one's, renamed by f, and g takes the names back
module _ (f g : ℕ → ℕ) (back : (q : ℕ) → g (f q) ≡ q) (p q : Program) (twins : (k : ℕ) → Twin p.states q.states f k (f k))
    (starts : f p.start ≡ q.start) (sizes : length p.states ≡ length q.states) (hay : List ℕ) where
  abbrev conf : Configuration → Configuration
  conf s = at (f s.state) s.place

  abbrev run_conf : Run → Run
  run_conf r = run r.start (map conf r.configurations) r.end

  if_conf : (b : Bool) (k i : ℕ) → cond b (at (f k) i ∷ []) [] ≡ map conf (cond b (at k i ∷ []) [])
  if_conf true k i = refl
  if_conf false k i = refl

  at_conf : (ks : List ℕ) (i : ℕ) → map (λ k. at k i) (map f ks) ≡ map conf (map (λ k. at k i) ks)
  at_conf [] i = refl
  at_conf (k ∷ ks) i = ap (λ l. at (f k) i ∷ l) (at_conf ks i)

  edges_conf : (s : State) (i : ℕ) → edges hay (renamed f s) i ≡ map conf (edges hay s i)
  edges_conf (program.char k c) i = if_conf (nat_lt 0 (piece hay i).len && (character (piece hay i) == c)) k (i + (piece hay i).len)
  edges_conf (program.ranges k rs) i = if_conf (nat_lt 0 (piece hay i).len && in_ranges rs (character (piece hay i))) k (i + (piece hay i).len)
  edges_conf (program.splits ks true) i = ap (map (λ k. at k i)) (reverse-map f ks) ∙ at_conf (reverse ks) i
  edges_conf (program.splits ks false) i = at_conf ks i
  edges_conf (program.goto k None) i = refl
  edges_conf (program.goto k (Some l)) i = if_conf (holds l hay i) k i
  edges_conf (program.capture k slot) i = refl
  edges_conf program.fail i = refl
  edges_conf program.match i = refl

  does_conf : (s : State) (i : ℕ) → (is_match (renamed f s) ≡ is_match s) × (write_of (renamed f s) i ≡ write_of s i)
  does_conf (program.char k c) i = (refl, refl)
  does_conf (program.ranges k rs) i = (refl, refl)
  does_conf (program.splits ks b) i = (refl, refl)
  does_conf (program.goto k l) i = (refl, refl)
  does_conf (program.capture k slot) i = (refl, refl)
  does_conf program.fail i = (refl, refl)
  does_conf program.match i = (refl, refl)

  leads_conf : (s : Configuration) → leads q hay (conf s) ≡ map conf (leads p hay s)
  leads_conf s = ap (λ t. edges hay t s.place) (twins s.state) ∙ edges_conf (state_at p.states s.state) s.place

  matches_conf : (s : Configuration) → matches q (conf s) ≡ matches p s
  matches_conf s = ap is_match (twins s.state) ∙ (does_conf (state_at p.states s.state) s.place).0

  same_number : (a b : ℕ) → (f a == f b) ≡ (a == b)
  same_number a b =
      ⊎_elim (λ (e : (a == b) ≡ true). eq-eqb (f a) (f b) (ap f (eqb-true a b e)) ∙ sym e)
      (λ (e : (a == b) ≡ false).
      ne_eqb (f a) (f b) (λ same. true≢false (sym (eq-eqb a b (sym (back a) ∙ ap g same ∙ back b)) ∙ e)) ∙ sym e)
      (cases_Bool (a == b))

  abbrev step : Configuration → Bool → Bool → Option (List Configuration) → Option (List Configuration)
  step s a c x = cond a None (cond c (Some (s ∷ [])) (option_map (λ r. s ∷ r) x))

  step_conf : (s : Configuration) (a c : Bool) (x : Option (List Configuration)) →
      step (conf s) a c (option_map (map conf) x) ≡ option_map (map conf) (step s a c x)
  step_conf s true c x = refl
  step_conf s false true x = refl
  step_conf s false false None = refl
  step_conf s false false (Some r) = refl

  walk_conf : (ends stops : Configuration → Bool) → ((s : Configuration) → stops (conf s) ≡ ends s) → (n : ℕ) (old new : Configuration → Bool) →
      ((s : Configuration) → new (conf s) ≡ old s) → (s : Configuration) →
      first_walk is_same_configuration (leads q hay) stops n new (conf s) ≡ option_map (map conf) (first_walk is_same_configuration (leads p hay) ends n old s)
  unfolding first_walk
  walk_conf ends stops same zero old new seen s = refl
  walk_conf ends stops same (suc n) old new seen s =
      let further = first_walk is_same_configuration (leads p hay) ends n (with_configuration is_same_configuration (leads p hay) ends old s) in
      let on = first_walk is_same_configuration (leads q hay) stops n (with_configuration is_same_configuration (leads q hay) stops new (conf s)) in
      ap (λ l. step (conf s) (new (conf s)) (stops (conf s)) (first_among on l)) (leads_conf s)
      ∙ ap (step (conf s) (new (conf s)) (stops (conf s))) (first_map conf (map conf) further on
      (walk_conf ends stops same n (with_configuration is_same_configuration (leads p hay) ends old s) (with_configuration is_same_configuration (leads q hay) stops new (conf s))
      (λ t. ap₂ (λ a b. a || b) (ap (λ b. b && (t.place == s.place)) (same_number t.state s.state)) (seen t)))
      (leads p hay s))
      ∙ ap₂ (λ a c. step (conf s) a c (option_map (map conf) (first_among further (leads p hay s)))) (seen s) (same s)
      ∙ step_conf s (old s) (ends s) (first_among further (leads p hay s))

  last_conf : (s : Configuration) (r : List Configuration) → (last_of (conf s) (map conf r)).place ≡ (last_of s r).place
  last_conf s [] = refl
  last_conf s (t ∷ r) = last_conf t r

  run_of_conf : (i : ℕ) (x : Option (List Configuration)) → option_and_then (run_of q hay i) (option_map (map conf) x) ≡ option_map run_conf (option_and_then (run_of p hay i) x)
  run_of_conf i None = refl
  run_of_conf i (Some []) = refl
  run_of_conf i (Some (s ∷ r)) = ap (λ j. Some (run i (map conf r) j)) (last_conf s r)

  found_conf : (ends stops : Configuration → Bool) → ((s : Configuration) → stops (conf s) ≡ ends s) → (i : ℕ) →
      option_and_then (run_of q hay i) (first_walk is_same_configuration (leads q hay) stops (enough q hay) (λ s. false) (at q.start i))
      ≡ option_map run_conf (option_and_then (run_of p hay i) (first_walk is_same_configuration (leads p hay) ends (enough p hay) (λ s. false) (at p.start i)))
  found_conf ends stops same i =
      ap₂ (λ n k. option_and_then (run_of q hay i) (first_walk is_same_configuration (leads q hay) stops (suc (n * suc (length hay))) (λ s. false) (at k i)))
      (sym sizes) (sym starts)
      ∙ ap (option_and_then (run_of q hay i)) (walk_conf ends stops same (enough p hay) (λ s. false) (λ s. false) (λ s. refl) (at p.start i))
      ∙ run_of_conf i (first_walk is_same_configuration (leads p hay) ends (enough p hay) (λ s. false) (at p.start i))

  from_conf : (i : ℕ) → first_run_from q hay i ≡ option_map run_conf (first_run_from p hay i)
  unfolding first_run_from
  from_conf i = found_conf (matches p) (matches q) matches_conf i

  pub to_conf : (i j : ℕ) → first_run_to q hay i j ≡ option_map run_conf (first_run_to p hay i j)
  unfolding first_run_to
  to_conf i j = found_conf (is_end_at p j) (is_end_at q j) (λ s. ap (λ b. b && (s.place == j)) (matches_conf s)) i

  below_conf : (n i : ℕ) → longest_run_below q hay n i ≡ option_map run_conf (longest_run_below p hay n i)
  unfolding longest_run_below
  below_conf zero i = refl
  below_conf (suc j) i = ap₂ option_or (to_conf i j) (below_conf j i) ∙ or_map run_conf (first_run_to p hay i j) (longest_run_below p hay j i)

  pub chosen_conf : (longest : Bool) (ps : List ℕ) → chosen_run longest q hay ps ≡ option_map run_conf (chosen_run longest p hay ps)
  unfolding first_run longest_run
  chosen_conf true ps = ap (first_among (longest_run_below q hay (suc (length hay)))) (sym (map-id ps)) ∙ first_map (λ i. i) run_conf _ _ (below_conf (suc (length hay))) ps
  chosen_conf false ps = ap (first_among (first_run_from q hay)) (sym (map-id ps)) ∙ first_map (λ i. i) run_conf _ _ from_conf ps

  writes_conf : (s : Configuration) (r : List Configuration) → writes q (conf s) (map conf r) ≡ writes p s r
  writes_conf s [] = refl
  writes_conf s (t ∷ r) =
      ap₂ (λ a b. a ++ b) (ap (λ u. write_of u s.place) (twins s.state) ∙ (does_conf (state_at p.states s.state) s.place).1) (writes_conf t r)

  pub written_conf : (r : Run) (k : ℕ) → written q (run_conf r) k ≡ written p r k
  written_conf r k =
      ap (λ a. last_write (writes q (at a r.start) (map conf r.configurations)) k) (sym starts)
      ∙ ap (λ w. last_write w k) (writes_conf (at p.start r.start) r.configurations)

-- ## The numbers of the states

-- pairs as a map from one number to the other; any other number stays
module _ (key value : ℕ × ℕ → ℕ) where
  abbrev look_up : List (ℕ × ℕ) → ℕ → ℕ
  look_up [] k = k
  look_up (z ∷ zs) k = cond (key z == k) (value z) (look_up zs k)

  looked_up : (zs : List (ℕ × ℕ)) → AllApart (map key zs) → (z : ℕ × ℕ) → Among zs z → look_up zs (key z) ≡ value z
  looked_up [] apart z h = absurd h
  looked_up (y ∷ zs) apart z h =
      ⊎_elim (λ (e : y ≡ z). ap (λ b. cond b (value y) (look_up zs (key z))) (eq-eqb (key y) (key z) (ap key e)) ∙ ap value e)
      (λ later.
      ap (λ b. cond b (value y) (look_up zs (key z)))
      (ne_eqb (key y) (key z) (λ same. apart.0 (subst (Among (map key zs)) (sym same) (Among-under key zs z later))))
      ∙ looked_up zs apart.1 z later) h

  not_there : (zs : List (ℕ × ℕ)) (k : ℕ) → IsNew k (map key zs) → look_up zs k ≡ k
  not_there [] k new = refl
  not_there (y ∷ zs) k new =
      ap (λ b. cond b (value y) (look_up zs k)) (ne_eqb (key y) k (λ same. new (inl same))) ∙ not_there zs k (λ later. new (inr later))

in_range : (a n k : ℕ) → Among (range_with_len a n) k → (a ≤ k) × (k < a + n)
in_range a zero k h = absurd h
in_range a (suc n) k h =
    ⊎_elim (λ (e : a ≡ k). (omega arith, omega arith)) (λ later. let i = in_range (a + 1) n k later in (omega (arith, i.0), omega (arith, i.1))) h

range_apart : (a n : ℕ) → AllApart (range_with_len a n)
range_apart a zero = tt
range_apart a (suc n) = (λ h. let i = in_range (a + 1) n a h in absurd (omega (arith, i.0)), range_apart (a + 1) n)

module _ (t : Tree) (p : Program) (hay : List ℕ) (fit : IsCompilable t) (built : Built t p) where
  abbrev numbers : List ℕ
  numbers = built.last ∷ built.used

  numbered : (k : ℕ) → Among numbers k → k < length p.states
  numbered k among =
      ⊎_elim (λ (e : nat_lt k (length p.states) ≡ true). ltb-true k (length p.states) e)
      (λ (e : nat_lt k (length p.states) ≡ false).
      absurd (let n = counts t p hay fit built k in let none = ap unit_if e in let some = counted_some numbers k among in omega (arith, n, none, some)))
      (cases_Bool (nat_lt k (length p.states)))

  is_number : (k : ℕ) → k < length p.states → Among numbers k
  is_number k lt =
      some_counted numbers k (let n = counts t p hay fit built k in let one = ap unit_if (lt-ltb k (length p.states) lt) in omega (arith, n, one))

  -- each state has one number
  state_count : length numbers ≡ length p.states
  state_count =
      let range = range_with_len 0 (length p.states) in
      let most = apart_length numbers range (all_apart t p hay fit built) (λ k among. among_first (length p.states) k (numbered k among)) in
      let least = apart_length range numbers (range_apart 0 (length p.states)) (λ k among. let i = in_range 0 (length p.states) k among in is_number k (omega (arith, i.1))) in
      omega (arith, most, least, length-range_with_len 0 (length p.states))

-- ## Two programs of one tree

module _ (t : Tree) (p q : Program) (hay : List ℕ) (fit : IsCompilable t) (one : Built t p) (two : Built t q) where
  form : Pairs p.states q.states (λ f. f p.start ≡ q.start) one.last one.used two.last two.used
  form = same_form p.states q.states (group 0 None t) p.start one.last one.used q.start two.last two.used one.form two.form

  abbrev pairs : List (ℕ × ℕ)
  pairs = (one.last, two.last) ∷ form.pairs

  abbrev f : ℕ → ℕ
  f = look_up (λ z. z.0) (λ z. z.1) pairs

  abbrev g : ℕ → ℕ
  g = look_up (λ z. z.1) (λ z. z.0) pairs

  left : map (λ (z : ℕ × ℕ). z.0) pairs ≡ numbers t p hay fit one
  left = ap (λ l. one.last ∷ l) form.left

  right : map (λ (z : ℕ × ℕ). z.1) pairs ≡ numbers t q hay fit two
  right = ap (λ l. two.last ∷ l) form.right

  there : (z : ℕ × ℕ) → Among pairs z → (f z.0 ≡ z.1) × (g z.1 ≡ z.0)
  there z h = (
    looked_up (λ z. z.0) (λ z. z.1) pairs (subst AllApart (sym left) (all_apart t p hay fit one)) z h,
    looked_up (λ z. z.1) (λ z. z.0) pairs (subst AllApart (sym right) (all_apart t q hay fit two)) z h,
  )

  inner : (f p.start ≡ q.start) × ((z : ℕ × ℕ) → Among form.pairs z → Twin p.states q.states f z.0 z.1)
  inner = form.twins f (there (one.last, two.last) (inl refl)).0 (λ z h. (there z (inr h)).0)

  sizes : length p.states ≡ length q.states
  sizes =
      sym (state_count t p hay fit one) ∙ ap length (sym left) ∙ length-map pairs (λ (z : ℕ × ℕ). z.0) ∙ sym (length-map pairs (λ (z : ℕ × ℕ). z.1)) ∙ ap length right
      ∙ state_count t q hay fit two

  -- a number is one of a pair, or it is above all
  abbrev Placed : ℕ → Type 0
  Placed k = ((z : ℕ × ℕ) × Among pairs z × (z.0 ≡ k)) ⊎ ((length p.states ≤ k) × (f k ≡ k) × (g k ≡ k))

  placed : (k : ℕ) → Placed k
  placed k =
      ⊎_elim (λ (lt : k < length p.states). inl (Among-map (λ (z : ℕ × ℕ). z.0) pairs k (subst (λ l. Among l k) (sym left) (is_number t p hay fit one k lt))))
      (λ (le : length p.states ≤ k). inr (
        le,
        not_there (λ z. z.0) (λ z. z.1) pairs k (λ h. let lt = numbered t p hay fit one k (subst (λ l. Among l k) left h) in absurd (omega (arith, lt, le))),
        not_there (λ z. z.1) (λ z. z.0) pairs k
            (λ h. let lt = numbered t q hay fit two k (subst (λ l. Among l k) right h) in absurd (omega (arith, lt, le, sizes))),
      ))
      (less_or_not k (length p.states))

  back : (k : ℕ) → g (f k) ≡ k
  back k =
      ⊎_elim (λ w. ap g (ap f (sym w.2) ∙ (there w.0 w.1).0) ∙ (there w.0 w.1).1 ∙ w.2) (λ w. ap g w.1 ∙ w.2) (placed k)

  twins : (k : ℕ) → Twin p.states q.states f k (f k)
  twins k =
      ⊎_elim
      (λ w.
      subst (λ x. Twin p.states q.states f x (f x)) w.2 (subst (λ y. Twin p.states q.states f w.0.0 y) (sym (there w.0 w.1).0)
      (⊎_elim
      (λ (is : (one.last, two.last) ≡ w.0).
      subst (λ (x : ℕ × ℕ). Twin p.states q.states f x.0 x.1) is (twin p.states q.states f one.last two.last program.match program.match one.ends two.ends refl))
      (inner.1 w.0) w.1)))
      (λ w.
      twin p.states q.states f k (f k) program.fail program.fail (get_or_past p.states k program.fail w.0)
      (get_or_past q.states (f k) program.fail (omega (arith, w.0, w.1, sizes))) refl)
      (placed k)

  abbrev other_run : Run → Run
  other_run = run_conf f g back p q twins inner.0 sizes hay

  module _ (fine : IsWellFormed p) (sound : IsWellFormed q) where
    same_slot : (r : Run) (k : ℕ) → slot_in (slots p r) k ≡ slot_in (slots q (other_run r)) k
    same_slot r k =
        slots_are_written p fine r k ∙ sym (written_conf f g back p q twins inner.0 sizes hay r k) ∙ sym (slots_are_written q sound (other_run r) k)

    abbrev Alike : Option Run → Option Run → Type 0
    Alike x y = AnswerAlike (option_map span_of_run x) (option_map (slots p) x) (option_map span_of_run y) (option_map (slots q) y)

    alike : (x : Option Run) → Alike x (option_map other_run x)
    alike None = (refl, tt)
    alike (Some r) = (refl, λ k. ap₂ span_between (same_slot r (2 * k)) (same_slot r (2 * k + 1)))

    chosen : (longest : Bool) (ps : List ℕ) → Alike (chosen_run longest p hay ps) (chosen_run longest q hay ps)
    chosen longest ps =
        subst (Alike (chosen_run longest p hay ps)) (sym (chosen_conf f g back p q twins inner.0 sizes hay longest ps)) (alike (chosen_run longest p hay ps))

    full : (i j : ℕ) → Alike (first_run_to p hay i j) (first_run_to q hay i j)
    full i j = subst (Alike (first_run_to p hay i j)) (sym (to_conf f g back p q twins inner.0 sizes hay i j)) (alike (first_run_to p hay i j))

-- ## Two regexes of one pattern

pub kept_answer_alike : KeptAnswerAlike
kept_answer_alike r k is are pattern flags longest =
    let trees : r.tree ≡ k.tree =
    reads_once (chars r.pattern) r.flags r.tree k.tree is.reads
    (subst (λ (f : Flags). Reads (chars r.pattern) f k.tree) (sym flags) (subst (λ (l : List ℕ). Reads (chars l) k.flags k.tree) (sym pattern) are.reads)) in
    let other : Built r.tree k.program = subst (λ (t : Tree). Built t k.program) (sym trees) are.built in (
      trees,
      λ hay ps.
          subst (λ (b : Bool). AnswerAlike (span_at r hay ps) (slots_at r hay ps) (option_map span_of_run (chosen_run b k.program hay ps))
          (option_map (slots k.program) (chosen_run b k.program hay ps))) longest
          (chosen r.tree r.program k.program hay is.compilable is.built other is.well_formed are.well_formed r.leftmost_longest ps),
      λ hay. (full r.tree r.program k.program hay is.compilable is.built other is.well_formed are.well_formed 0 (length hay)).1,
    )
