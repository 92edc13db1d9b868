-- All runs of a plain tree's program, in order, are its parses, in order.
use Rattle.std.proofs.lemmas.Grind.{common_steps}
use Rattle.std.proofs.Common.{◌≡◌, ◌≢◌, ℕ, zero, suc, ◌<◌, ◌≤◌, Bool, true, false, cond, List, [], ◌∷◌, ◌++◌, map, length, Option, Some, None, refl, sym, ap, ap₂, ◌∙◌, subst, inl, inr, ⊎_elim, arith, eq-eqb, ltb-false, eqb-true, ◌+◌}
use Rattle.std.specs.Prelude.{if◌then◌else◌, flat_map, nat_lt, count_by, ◌==◌, ◌&&◌}
use Rattle.std.proofs.lemmas.List.{get_or_past}
use Rattle.std.proofs.lemmas.List.Sums.{sum_by-cons}
use Rattle.std.proofs.lemmas.Bool.{cases_Bool}
use Rattle.bites_spec.specs.Utf8.{piece, character}
use Rattle.bites_spec.specs.Look.{Look, holds}
use Rattle.bites_spec.specs.Range.{in_ranges}
use Rattle.bites_spec.specs.Walks.{Among, AllApart, AreOrdered, Earlier, Walk, Before, last_of}
use Rattle.bites_spec.specs.Tree.{Tree}
use Rattle.bites_spec.specs.Preference.{ParseTo}
use Rattle.bites_spec.specs.Program.{State, Program, Configuration, at, state_at, edges, looking, targets_of}
use Rattle.bites_spec.specs.Program as program
use Rattle.bites_spec.specs.Run.{Run, run, leads, matches, Runs, IsRun, AreAllRuns, writes, write_of}
use Rattle.bites_spec.specs.Built.{Built, IsCompilable}
use Rattle.bites_spec.specs.Slots.{HasGroups, Correspond}
use Rattle.bites_spec.specs.RunLaws.{RunsAreParsesInOrder}
use Rattle.bites_spec.proofs.runs.RunLemmas.{match_ends}
use Rattle.bites_spec.proofs.parses.EventLemmas.{marks_of, Steps}
use Rattle.bites_spec.proofs.programs.OrderLemmas.{TracedParse, Tour, before, tour_of, wrap, traced_parses, Every, runs_within, map-append}
use Rattle.bites_spec.proofs.programs.TracedParses.{traced_parses_are, parse_of, traced_parses-parses}
use Rattle.bites_spec.proofs.programs.FormOrderLemmas.{all_runs}
use Rattle.bites_spec.proofs.programs.PlainLemmas.{tour, ends_at}
use Rattle.bites_spec.proofs.programs.BuiltLemmas.{Among-append, has_groups}
use Rattle.bites_spec.proofs.programs.SlotLemmas.{Among-left, Among-right}
use Rattle.bites_spec.proofs.programs.FoundLemmas.{unfold_whole}
use Rattle.bites_spec.proofs.programs.ApartLemmas.{HasForm-entered, HasForm-fine, group-fine}
use Rattle.bites_spec.proofs.programs.ListedLemmas.{Among-under}

-- an element of a mapped list is the image of an element
pub Among-map : {A B : Type 0} (f : A → B) (xs : List A) (y : B) → Among (map f xs) y → (x : A) × Among xs x × (f x ≡ y)
Among-map f [] y h = absurd h
Among-map f (x ∷ xs) y h =
    ⊎_elim (λ (e : f x ≡ y). (x, inl refl, e)) (λ later. let m = Among-map f xs y later in (m.0, inr m.1, m.2)) h

Among-flat : {A B : Type 0} (f : A → List B) (xs : List A) (y : B) → Among (flat_map f xs) y → (x : A) × Among xs x × Among (f x) y
Among-flat f [] y h = absurd h
Among-flat f (x ∷ xs) y h =
    ⊎_elim (λ here. (x, inl refl, here)) (λ later. let m = Among-flat f xs y later in (m.0, inr m.1, m.2)) (Among-append (f x) (flat_map f xs) y h)

Among-join : {A B : Type 0} (f : A → List B) (xs : List A) (x : A) (y : B) → Among xs x → Among (f x) y → Among (flat_map f xs) y
Among-join f [] x y h g = absurd h
Among-join f (z ∷ xs) x y h g =
    ⊎_elim (λ (e : z ≡ x). Among-left (f z) (flat_map f xs) y (subst (λ w. Among (f w) y) (sym e) g))
    (λ later. Among-right (f z) (flat_map f xs) y (Among-join f xs x y later g)) h

map-flat_map : {A B C : Type 0} (f : B → C) (g : A → List B) (xs : List A) → map f (flat_map g xs) ≡ flat_map (λ x. map f (g x)) xs
map-flat_map f g [] = refl
map-flat_map f g (x ∷ xs) = map-append f (g x) (flat_map g xs) ∙ ap (λ ys. map f (g x) ++ ys) (map-flat_map f g xs)

flat_map-same : {A B : Type 0} (f g : A → List B) (xs : List A) → ((x : A) → f x ≡ g x) → flat_map f xs ≡ flat_map g xs
flat_map-same f g [] e = refl
flat_map-same f g (x ∷ xs) e = ap₂ ◌++◌ (e x) (flat_map-same f g xs e)

-- a list stays ordered in each relation that its order implies
AreOrdered-on : {A : Type 0} (R T : A → A → Type 0) (xs : List A) → ((x y : A) → Among xs x → Among xs y → R x y → T x y) → AreOrdered R xs → AreOrdered T xs
AreOrdered-on R T [] f h = tt
AreOrdered-on R T (x ∷ xs) f h =
    ((λ y among. f x y (inl refl) (inr among) (h.0 y among)), AreOrdered-on R T xs (λ a b u v r. f a b (inr u) (inr v) r) h.1)

AreOrdered-append : {A : Type 0} (R : A → A → Type 0) (xs ys : List A) → AreOrdered R xs → AreOrdered R ys →
    ((x y : A) → Among xs x → Among ys y → R x y) → AreOrdered R (xs ++ ys)
AreOrdered-append R [] ys a b cross = b
AreOrdered-append R (x ∷ xs) ys a b cross = (
  λ y among. ⊎_elim (λ l. a.0 y l) (λ r. cross x y (inl refl) r) (Among-append xs ys y among),
  AreOrdered-append R xs ys a.1 b (λ u v l r. cross u v (inr l) r),
)

AreOrdered-map : {A B : Type 0} (R : A → A → Type 0) (T : B → B → Type 0) (f : A → B) (xs : List A) → ((x y : A) → R x y → T (f x) (f y)) →
    AreOrdered R xs → AreOrdered T (map f xs)
AreOrdered-map R T f [] g h = tt
AreOrdered-map {A} {B} R T f (x ∷ xs) g h = (
  λ y among. let m = Among-map f xs y among in subst (λ (z : B). T (f x) z) m.2 (g x m.0 (h.0 m.0 m.1)),
  AreOrdered-map R T f xs g h.1,
)

-- distinct elements stand in the order of their list
apart_ordered : {A : Type 0} (xs : List A) → AllApart xs → AreOrdered (Earlier xs) xs
apart_ordered [] apart = tt
apart_ordered {A} (x ∷ xs) apart = (
  λ y among. inl (refl, other y among, among),
  AreOrdered-on (Earlier xs) (Earlier (x ∷ xs)) xs (λ a b u v early. inr (other a u, other b v, early)) (apart_ordered xs apart.1),
)
  where
    other : (y : A) → Among xs y → x ≢ y
    other y among e = apart.0 (subst (λ (z : A). Among xs z) (sym e) among)

module _ (p : Program) (hay : List ℕ) where
  abbrev Goes : Configuration → List Configuration → Type 0
  Goes s r = Walk (leads p hay) (λ q. matches p q ≡ true) s r

  -- the configurations after s of all runs of fewer than n edges, the preferred run first
  unfoldable walks_within : ℕ → Configuration → List (List Configuration)
  walks_within zero s = []
  walks_within (suc n) s = if matches p s then [] ∷ [] else flat_map (λ t. map (λ r. t ∷ r) (walks_within n t)) (leads p hay s)

  walks_match : (n : ℕ) (s : Configuration) → matches p s ≡ true → walks_within (suc n) s ≡ [] ∷ []
  unfolding walks_within
  walks_match n s is = rw is refl

  walks_step : (n : ℕ) (s : Configuration) → matches p s ≡ false → walks_within (suc n) s ≡ flat_map (λ t. map (λ r. t ∷ r) (walks_within n t)) (leads p hay s)
  unfolding walks_within
  walks_step n s goes = rw goes refl

  runs_match : (n : ℕ) (s : Configuration) → matches p s ≡ true → runs_within p hay (suc n) s ≡ record { end = s.place; writes = [] } ∷ []
  unfolding runs_within
  runs_match n s is = rw is refl

  runs_step : (n : ℕ) (s : Configuration) → matches p s ≡ false → runs_within p hay (suc n) s
      ≡ flat_map (λ t. map (before (write_of (state_at p.states s.state) s.place)) (runs_within p hay n t)) (leads p hay s)
  unfolding runs_within
  runs_step n s goes = rw goes refl

  tours_on : (s t : Configuration) (rs : List (List Configuration)) →
      map (tour p hay s) (map (λ r. t ∷ r) rs) ≡ map (before (write_of (state_at p.states s.state) s.place)) (map (tour p hay t) rs)
  tours_on s t [] = refl
  tours_on s t (r ∷ rs) = ap (λ us. tour p hay s (t ∷ r) ∷ us) (tours_on s t rs)

  -- their ends and writes are those that `runs_within` lists
  tours_within : (n : ℕ) (s : Configuration) → map (tour p hay s) (walks_within n s) ≡ runs_within p hay n s
  unfolding walks_within runs_within
  tours_within zero s = refl
  tours_within (suc n) s =
      ⊎_elim
      (λ (is : matches p s ≡ true). ap (map (tour p hay s)) (walks_match n s is) ∙ sym (runs_match n s is))
      (λ (goes : matches p s ≡ false).
      ap (map (tour p hay s)) (walks_step n s goes)
      ∙ map-flat_map (tour p hay s) (λ t. map (λ r. t ∷ r) (walks_within n t)) (leads p hay s)
      ∙ flat_map-same _ (λ t. map (before (write_of (state_at p.states s.state) s.place)) (runs_within p hay n t)) (leads p hay s)
      (λ t. tours_on s t (walks_within n t) ∙ ap (map (before (write_of (state_at p.states s.state) s.place))) (tours_within n t))
      ∙ sym (runs_step n s goes))
      (cases_Bool (matches p s))

  -- each of them is a run
  walks_go : (n : ℕ) (s : Configuration) (r : List Configuration) → Among (walks_within n s) r → Goes s r
  unfolding walks_within
  walks_go zero s r h = absurd h
  walks_go (suc n) s r h =
      ⊎_elim
      (λ (is : matches p s ≡ true).
      ⊎_elim (λ (e : [] ≡ r). subst (λ (x : List Configuration). Goes s x) e is) (λ (no : ⊥). absurd no) (subst (λ (l : List (List Configuration)). Among l r) (walks_match n s is) h))
      (λ (goes : matches p s ≡ false).
      let from = Among-flat (λ t. map (λ r. t ∷ r) (walks_within n t)) (leads p hay s) r (subst (λ (l : List (List Configuration)). Among l r) (walks_step n s goes) h) in
      let by = Among-map (λ r. from.0 ∷ r) (walks_within n from.0) r from.2 in
      subst (λ (x : List Configuration). Goes s x) by.2 (from.1, walks_go n from.0 by.0 by.1))
      (cases_Bool (matches p s))

  -- and each run of fewer than n edges is one of them
  walks_all : (n : ℕ) (s : Configuration) (r : List Configuration) → Goes s r → length r < n → Among (walks_within n s) r
  unfolding walks_within
  walks_all zero s r goes lt = absurd (omega (arith, lt))
  walks_all (suc n) s [] goes lt = subst (λ (l : List (List Configuration)). Among l []) (sym (walks_match n s goes)) (inl refl)
  walks_all (suc n) s (t ∷ r) goes lt =
      ⊎_elim
      (λ (is : matches p s ≡ true). absurd (subst (λ (xs : List Configuration). Among xs t) (match_ends p hay s is) goes.0))
      (λ (on : matches p s ≡ false).
      subst (λ (l : List (List Configuration)). Among l (t ∷ r)) (sym (walks_step n s on))
      (Among-join (λ t. map (λ r. t ∷ r) (walks_within n t)) (leads p hay s) t (t ∷ r) goes.0
      (Among-under (λ r. t ∷ r) (walks_within n t) r (walks_all n t r goes.1 (omega (arith, lt))))))
      (cases_Bool (matches p s))

  -- where no edge comes twice, the runs stand in order
  module _ (apart : (s : Configuration) → AllApart (leads p hay s)) where
    join_ordered : (n : ℕ) (s : Configuration) (xs : List Configuration) → AreOrdered (Earlier (leads p hay s)) xs →
        ((t : Configuration) → AreOrdered (Before (leads p hay) t) (walks_within n t)) →
        AreOrdered (Before (leads p hay) s) (flat_map (λ t. map (λ r. t ∷ r) (walks_within n t)) xs)
    join_ordered n s [] early each = tt
    join_ordered n s (t ∷ ts) early each =
        AreOrdered-append (Before (leads p hay) s) (map (λ r. t ∷ r) (walks_within n t)) (flat_map (λ t. map (λ r. t ∷ r) (walks_within n t)) ts)
        (AreOrdered-map (Before (leads p hay) t) (Before (leads p hay) s) (λ r. t ∷ r) (walks_within n t) (λ a b bef. inr (refl, bef)) (each t))
        (join_ordered n s ts early.1 each)
        (λ x y l r.
        let one = Among-map (λ r. t ∷ r) (walks_within n t) x l in
        let from = Among-flat (λ t. map (λ r. t ∷ r) (walks_within n t)) ts y r in
        let two = Among-map (λ r. from.0 ∷ r) (walks_within n from.0) y from.2 in
        subst (λ (u : List Configuration). Before (leads p hay) s u y) one.2
        (subst (λ (v : List Configuration). Before (leads p hay) s (t ∷ one.0) v) two.2 (inl (early.0 from.0 from.1))))

    walks_ordered : (n : ℕ) (s : Configuration) → AreOrdered (Before (leads p hay) s) (walks_within n s)
    unfolding walks_within
    walks_ordered zero s = tt
    walks_ordered (suc n) s =
        ⊎_elim
        (λ (is : matches p s ≡ true).
        subst (λ (l : List (List Configuration)). AreOrdered (Before (leads p hay) s) l) (sym (walks_match n s is)) ((λ y no. absurd no), tt))
        (λ (goes : matches p s ≡ false).
        subst (λ (l : List (List Configuration)). AreOrdered (Before (leads p hay) s) l) (sym (walks_step n s goes))
        (join_ordered n s (leads p hay s) (apart_ordered (leads p hay s) (apart s)) (λ t. walks_ordered n t)))
        (cases_Bool (matches p s))

-- if the targets of a state are distinct, so are its edges
places_apart : (qs : List ℕ) (i : ℕ) → AllApart qs → AllApart (map (λ q. at q i) qs)
places_apart [] i apart = tt
places_apart (q ∷ qs) i apart = grind (arith, common_steps, Among-map, (places_apart qs i apart.1))

if_apart : (b : Bool) (s : Configuration) → AllApart (cond b (s ∷ []) [])
if_apart true s = ((λ h. h), tt)
if_apart false s = tt

looking_apart : (hay : List ℕ) (look : Option Look) (q i : ℕ) → AllApart (looking hay look q i)
looking_apart hay None q i = ((λ h. h), tt)
looking_apart hay (Some l) q i = if_apart (holds l hay i) (at q i)

edges_differ : (hay : List ℕ) (s : State) (i : ℕ) → AllApart (targets_of s) → AllApart (edges hay s i)
edges_differ hay (program.char q c) i apart = if_apart (nat_lt 0 (piece hay i).len && (character (piece hay i) == c)) (at q (i + (piece hay i).len))
edges_differ hay (program.ranges q rs) i apart = if_apart (nat_lt 0 (piece hay i).len && in_ranges rs (character (piece hay i))) (at q (i + (piece hay i).len))
edges_differ hay (program.splits qs b) i apart = places_apart (targets_of (program.splits qs b)) i apart
edges_differ hay (program.goto q l) i apart = looking_apart hay l q i
edges_differ hay (program.capture q k) i apart = ((λ h. h), tt)
edges_differ hay program.fail i apart = tt
edges_differ hay program.match i apart = tt

-- 1 for a test that passes, else 0
abbrev pub unit_if : Bool → ℕ
unit_if b = cond b 1 0

-- how many times a number comes in the list
abbrev times : List ℕ → ℕ → ℕ
times xs q = count_by (λ u. u == q) xs

times-cons : (x : ℕ) (xs : List ℕ) (q : ℕ) → times (x ∷ xs) q ≡ unit_if (x == q) + times xs q
times-cons x xs q = sum_by-cons (λ u. cond (u == q) 1 0) x xs

-- what is in a list comes in it at least once
pub counted_some : (xs : List ℕ) (q : ℕ) → Among xs q → 1 ≤ times xs q
counted_some [] q h = absurd h
counted_some (x ∷ xs) q h =
    ⊎_elim
    (λ (e : x ≡ q).
    let one : unit_if (x == q) ≡ 1 = ap unit_if (eq-eqb x q e) in
    let all = times-cons x xs q in omega (arith, one, all))
    (λ later. let more = counted_some xs q later in let all = times-cons x xs q in omega (arith, more, all)) h

pub some_counted : (xs : List ℕ) (q : ℕ) → 1 ≤ times xs q → Among xs q
some_counted [] q h = absurd (omega (arith, h))
some_counted (x ∷ xs) q h =
    ⊎_elim (λ (b : (x == q) ≡ true). inl (eqb-true x q b))
    (λ (b : (x == q) ≡ false).
    let none : unit_if (x == q) ≡ 0 = ap unit_if b in
    let all = times-cons x xs q in inr (some_counted xs q (omega (arith, h, none, all))))
    (cases_Bool (x == q))

once_apart : (xs : List ℕ) → ((q : ℕ) → times xs q ≤ 1) → AllApart xs
once_apart [] once = tt
once_apart (x ∷ xs) once = (
  λ h. let more = counted_some xs x h in
      let all = times-cons x xs x in
      let one : unit_if (x == x) ≡ 1 = ap unit_if (eq-eqb x x refl) in
      let most = once x in absurd (omega (arith, more, all, one, most)),
  once_apart xs (λ q. let all = times-cons x xs q in let most = once q in omega (arith, all, most)),
)

module _ (t : Tree) (p : Program) (hay : List ℕ) (fit : IsCompilable t) (built : Built t p) where
  pub counts : (q : ℕ) → times (built.last ∷ built.used) q ≡ unit_if (nat_lt q (length p.states))
  counts q = built.each_once q

  pub all_apart : AllApart (built.last ∷ built.used)
  all_apart = once_apart (built.last ∷ built.used) (λ q. at_most (nat_lt q (length p.states)) (counts q))
    where
      at_most : (b : Bool) {n : ℕ} → n ≡ unit_if b → n ≤ 1
      at_most true e = omega (arith, e)
      at_most false e = omega (arith, e)

  past_states : (ss : List State) (q : ℕ) → length ss ≤ q → state_at ss q ≡ program.fail
  past_states ss q le = get_or_past ss q program.fail le

  -- no state leads to one state twice
  targets_apart : (q : ℕ) → AllApart (targets_of (state_at p.states q))
  targets_apart q =
      ⊎_elim
      (λ (lt : nat_lt q (length p.states) ≡ true).
      ⊎_elim
      (λ (e : built.last ≡ q). subst (λ (s : State). AllApart (targets_of s)) (sym (ap (state_at p.states) (sym e) ∙ built.ends)) tt)
      (λ inside.
      group-fine p.states 0 None t (HasForm-entered p.states t fit.reduced) (HasForm-fine p.states t fit.reduced) p.start built.last built.used built.form
      all_apart.1 all_apart.0 q inside)
      (some_counted (built.last ∷ built.used) q (let n = counts q in let one = ap unit_if lt in omega (arith, n, one))))
      (λ (ge : nat_lt q (length p.states) ≡ false).
      subst (λ (s : State). AllApart (targets_of s)) (sym (past_states p.states q (ltb-false q (length p.states) ge))) tt)
      (cases_Bool (nat_lt q (length p.states)))

  leads_apart : (s : Configuration) → AllApart (leads p hay s)
  leads_apart s = edges_differ hay (state_at p.states s.state) s.place (targets_apart s.state)

  module _ (i : ℕ) where
    abbrev first : Configuration
    first = at p.start i

    abbrev run_along : List Configuration → Run
    run_along r = run i r (last_of first r).place

    go_on : (s : Configuration) (r : List Configuration) → Goes p hay s r → Runs p hay s r (last_of s r).place
    go_on s [] goes = (goes, refl)
    go_on s (u ∷ r) goes = (goes.0, go_on u r goes.1)

    goes_of : (s : Configuration) (r : List Configuration) (j : ℕ) → Runs p hay s r j → Goes p hay s r
    goes_of s [] j runs = runs.0
    goes_of s (u ∷ r) j runs = (runs.0, goes_of u r j runs.1)

    -- the list of all walks from the start makes the list of all runs
    are_all_runs : (n : ℕ) → ((r : List Configuration) (j : ℕ) → IsRun p hay i r j → length r < n) → AreAllRuns p hay i (map run_along (walks_within p hay n first))
    are_all_runs n short = record {
      runs = λ r h. let m = Among-map run_along (walks_within p hay n first) r h in
          subst (λ (x : Run). (x.start ≡ i) × IsRun p hay i x.configurations x.end) m.2 (refl, go_on first m.0 (walks_go p hay n first m.0 m.1));
      all = λ r j runs.
          subst (λ (k : ℕ). Among (map run_along (walks_within p hay n first)) (run i r k)) (ends_at p hay first r j runs)
          (Among-under run_along (walks_within p hay n first) r (walks_all p hay n first r (goes_of first r j runs) (short r j runs)));
      in_order = AreOrdered-map (Before (leads p hay) first) (λ r o. Before (leads p hay) first r.configurations o.configurations) run_along (walks_within p hay n first)
          (λ a b bef. bef) (walks_ordered p hay leads_apart n first);
    }

    -- each walk corresponds to the listed parse that it traces
    correspond : (rs : List (List Configuration)) (ts : List TracedParse) → Every (λ w. Steps hay t i w.end w.events) ts →
        map (tour p hay first) rs ≡ map tour_of (map (wrap 0 i) ts) → Correspond p (map run_along rs) (map (parse_of hay) ts)
    correspond [] [] are e = tt
    correspond [] (w ∷ ts) are e = grind arith
    correspond (r ∷ rs) [] are e = grind arith
    correspond (r ∷ rs) (w ∷ ts) are e =
        let here = heads (tour p hay first r) (tour_of (wrap 0 i w)) (map (tour p hay first) rs) (map tour_of (map (wrap 0 i) ts)) e in
        let end : (last_of first r).place ≡ w.end = ap (λ (x : Tour). x.end) here.0 in (
          end,
          subst (λ (j : ℕ). HasGroups p (run i r j) (marks_of w.events)) (sym end)
              (has_groups t p hay fit built i w.end r w.events are.0
              (unfold_whole t p hay fit built i w.end w.events (writes p first r) (ap (λ (x : Tour). x.writes) here.0))),
          correspond rs ts are.1 here.1,
        )
      where
        heads : (a b : Tour) (us vs : List Tour) → a ∷ us ≡ b ∷ vs → (a ≡ b) × (us ≡ vs)
        heads a b us vs e = (cc, cc)

pub runs_are_parses_in_order : RunsAreParsesInOrder
runs_are_parses_in_order t p hay fit built plain i =
    let are = all_runs p hay t fit.reduced plain built i in
    let walks = walks_within p hay are.bound (at p.start i) in (
      map (run_along t p hay fit built i) walks,
      are_all_runs t p hay fit built i are.bound are.short,
      subst (λ (ws : List ParseTo). Correspond p (map (run_along t p hay fit built i) walks) ws) (traced_parses-parses hay t i)
          (correspond t p hay fit built i walks (traced_parses hay t i) (traced_parses_are hay t fit.reduced i)
          (tours_within p hay are.bound (at p.start i) ∙ are.are are.bound (omega arith))),
    )
