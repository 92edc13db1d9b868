-- All runs from a part's entry, in order, are the part's traced parses in order, each with all runs from its end.
use Rattle.std.proofs.lemmas.Grind.{common_steps}
use Rattle.std.proofs.Common.{◌≡◌, ℕ, zero, suc, ◌+◌, ◌-◌, ◌<◌, ◌≤◌, Bool, true, false, cond, max, List, [], ◌∷◌, ◌++◌, map, length, Option, Some, None, refl, sym, ap, ap₂, ◌∙◌, subst, ⊎_elim, arith, append_assoc, append-nil}
use Rattle.std.specs.Prelude.{if◌then◌else◌, flat_map, nat_lt, ◌&&◌, ◌==◌}
use Rattle.bites_spec.specs.Utf8.{piece, character}
use Rattle.bites_spec.specs.Look.{holds}
use Rattle.bites_spec.specs.Walks.{Among}
use Rattle.bites_spec.specs.Range.{in_ranges}
use Rattle.bites_spec.specs.Tree.{Tree, Trees, empty, char, class, look, repetition, group, sequence, alternation, no_tree, tree_and}
use Rattle.bites_spec.specs.Program.{State, Program, Configuration, at, state_at, edges, is_match}
use Rattle.bites_spec.specs.Program as program
use Rattle.bites_spec.specs.Run.{leads, matches, Runs, write_of}
use Rattle.bites_spec.specs.Built.{Fragment, One, Behind, Copies, Options, Loop, Star, Bounded, choice}
use Rattle.bites_spec.proofs.parses.EventLemmas.{Event, opened, closed, writes_of, writes_of-append}

-- where a parse ends, and its events
pub record TracedParse : Type 0 where
  pub end : ℕ
  pub events : List Event

abbrev pub traced : ℕ → List Event → TracedParse
traced l es = record { end = l; events = es }

abbrev pub stay : ℕ → TracedParse
stay i = traced i []

-- where a run ends, and what it writes
pub record Tour : Type 0 where
  pub end : ℕ
  pub writes : List (ℕ × ℕ)

abbrev pub tour_of : TracedParse → Tour
tour_of t = record { end = t.end; writes = writes_of t.events }

abbrev pub prefix : List Event → TracedParse → TracedParse
prefix es t = traced t.end (es ++ t.events)

abbrev pub before : List (ℕ × ℕ) → Tour → Tour
before ws t = record { end = t.end; writes = ws ++ t.writes }

-- each traced parse, followed by each that begins at its end
unfoldable pub behind : List TracedParse → (ℕ → List TracedParse) → List TracedParse
behind [] f = []
behind (t ∷ ts) f = map (prefix t.events) (f t.end) ++ behind ts f

-- each traced parse, followed by each tour from its end
unfoldable pub onward : List TracedParse → (ℕ → List Tour) → List Tour
onward [] k = []
onward (t ∷ ts) k = map (before (writes_of t.events)) (k t.end) ++ onward ts k

abbrev pub Every : {A : Type 0} → (A → Type 0) → List A → Type 0
Every P [] = Unit {0}
Every P (t ∷ ts) = P t × Every P ts

pub Every-append : {A : Type 0} (P : A → Type 0) (xs ys : List A) → Every P (xs ++ ys) → Every P xs × Every P ys
Every-append P [] ys h = (tt, h)
Every-append P (x ∷ xs) ys h = let r = Every-append P xs ys h.1 in ((h.0, r.0), r.1)

Every-map : {A B : Type 0} (P : B → Type 0) (f : A → B) (xs : List A) → Every P (map f xs) → Every (λ t. P (f t)) xs
Every-map P f [] h = tt
Every-map P f (x ∷ xs) h = (h.0, Every-map P f xs h.1)

pub Every-also : {A : Type 0} (P Q : A → Type 0) (ts : List A) → ((t : A) → P t → Q t) → Every P ts → Every Q ts
Every-also P Q [] f h = tt
Every-also P Q (t ∷ ts) f h = (f t h.0, Every-also P Q ts f h.1)

Every-both : {A : Type 0} (P Q R : A → Type 0) (ts : List A) → ((t : A) → P t → Q t → R t) → Every P ts → Every Q ts → Every R ts
Every-both P Q R [] f h g = tt
Every-both P Q R (t ∷ ts) f h g = (f t h.0 g.0, Every-both P Q R ts f h.1 g.1)

pub map-append : {A B : Type 0} (f : A → B) (xs ys : List A) → map f (xs ++ ys) ≡ map f xs ++ map f ys
map-append f [] ys = refl
map-append f (x ∷ xs) ys = ap (λ ts. f x ∷ ts) (map-append f xs ys)

tours_twice : (a b : List Event) (ts : List Tour) → map (before (writes_of (a ++ b))) ts ≡ map (before (writes_of a)) (map (before (writes_of b)) ts)
tours_twice a b [] = refl
tours_twice a b (t ∷ ts) =
    ap₂ {C = List Tour} (λ (ws : List (ℕ × ℕ)) (rest : List Tour). record { end = t.end; writes = ws } ∷ rest)
    (ap (λ ws. ws ++ t.writes) (writes_of-append a b) ∙ append_assoc (writes_of a) (writes_of b) t.writes) (tours_twice a b ts)

pub nothing_before : (ts : List Tour) → map (before []) ts ≡ ts
nothing_before [] = refl
nothing_before (t ∷ ts) = ap (λ us. t ∷ us) (nothing_before ts)

pub onward-append : (xs ys : List TracedParse) (k : ℕ → List Tour) → onward (xs ++ ys) k ≡ onward xs k ++ onward ys k
unfolding onward
onward-append [] ys k = refl
onward-append (x ∷ xs) ys k = grind (arith, common_steps, append_assoc, (onward-append xs ys k))

onward-map : (es : List Event) (ts : List TracedParse) (k : ℕ → List Tour) → onward (map (prefix es) ts) k ≡ map (before (writes_of es)) (onward ts k)
unfolding onward
onward-map es [] k = refl
onward-map es (t ∷ ts) k = grind (arith, common_steps, tours_twice, map-append, (onward-map es ts k))

pub onward_twice : (ts : List TracedParse) (f : ℕ → List TracedParse) (k : ℕ → List Tour) → onward (behind ts f) k ≡ onward ts (λ l. onward (f l) k)
unfolding onward behind
onward_twice [] f k = refl
onward_twice (t ∷ ts) f k = grind (arith, common_steps, onward-append, onward-map, (onward_twice ts f k))

pub Every-behind : (P : ℕ → Type 0) (ts : List TracedParse) (f : ℕ → List TracedParse) → Every (λ t. P t.end) (behind ts f) →
    Every (λ t. Every (λ u. P u.end) (f t.end)) ts
unfolding behind
Every-behind P [] f h = tt
Every-behind P (t ∷ ts) f h =
    let r = Every-append (λ u. P u.end) (map (prefix t.events) (f t.end)) (behind ts f) h in
    (Every-map (λ u. P u.end) (prefix t.events) (f t.end) r.0, Every-behind P ts f r.1)

-- up to n turns of the body; `greedy` says whether one more is preferred
unfoldable pub up_to : ℕ → Bool → (ℕ → List TracedParse) → ℕ → List TracedParse
up_to zero greedy body i = stay i ∷ []
up_to (suc n) greedy body i = if greedy then behind (body i) (up_to n greedy body) ++ stay i ∷ [] else stay i ∷ behind (body i) (up_to n greedy body)

-- n turns of the body, and then the rest
unfoldable pub after_turns : ℕ → (ℕ → List TracedParse) → (ℕ → List TracedParse) → ℕ → List TracedParse
after_turns zero body rest i = rest i
after_turns (suc n) body rest i = behind (body i) (after_turns n body rest)

abbrev pub wrap : ℕ → ℕ → TracedParse → TracedParse
wrap k i t = traced t.end (opened k i ∷ (t.events ++ closed k i t.end ∷ []))

module _ (hay : List ℕ) where
  abbrev pub taken : (ℕ → Bool) → ℕ → List TracedParse
  taken test i = if nat_lt 0 (piece hay i).len && test (character (piece hay i)) then stay (i + (piece hay i).len) ∷ [] else []

  abbrev pub turns : ℕ → Option ℕ → Bool → (ℕ → List TracedParse) → ℕ → List TracedParse
  turns min None greedy body = after_turns min body (up_to (length hay) greedy body)
  turns min (Some most) greedy body = after_turns min body (up_to (most - min) greedy body)

  unfoldable mutual
    -- the parses that `parses` lists, with their events
    pub traced_parses : Tree → ℕ → List TracedParse
    traced_parses empty i = stay i ∷ []
    traced_parses (char c) i = taken (λ d. d == c) i
    traced_parses (class rs) i = taken (in_ranges rs) i
    traced_parses (look l) i = if holds l hay i then stay i ∷ [] else []
    traced_parses (repetition min most greedy t) i = turns min most greedy (traced_parses t) i
    traced_parses (group k name t) i = map (wrap k i) (traced_parses t i)
    traced_parses (sequence ts) i = traced_parses_of_all ts i
    traced_parses (alternation ts) i = traced_parses_of_one ts i

    pub traced_parses_of_all : Trees → ℕ → List TracedParse
    traced_parses_of_all no_tree i = stay i ∷ []
    traced_parses_of_all (tree_and t ts) i = behind (traced_parses t i) (traced_parses_of_all ts)

    pub traced_parses_of_one : Trees → ℕ → List TracedParse
    traced_parses_of_one no_tree i = []
    traced_parses_of_one (tree_and t ts) i = traced_parses t i ++ traced_parses_of_one ts i

module _ (p : Program) (hay : List ℕ) where
  abbrev writes_at : Configuration → List (ℕ × ℕ)
  writes_at s = write_of (state_at p.states s.state) s.place

  -- all runs of fewer than n edges, the preferred one first
  unfoldable pub runs_within : ℕ → Configuration → List Tour
  runs_within zero s = []
  runs_within (suc n) s =
      if matches p s then record { end = s.place; writes = [] } ∷ []
      else flat_map (λ t. map (before (writes_at s)) (runs_within n t)) (leads p hay s)

  -- all runs from s, in order, and a bound on their length
  pub record AreRuns (s : Configuration) (all : List Tour) : Type 0 where
    pub bound : ℕ
    pub are : (n : ℕ) → bound ≤ n → runs_within n s ≡ all
    pub short : (r : List Configuration) (j : ℕ) → Runs p hay s r j → length r < bound

  abbrev pub EachAre : List Configuration → List (List Tour) → Type 0
  EachAre [] [] = Unit {0}
  EachAre [] (x ∷ xs) = ⊥
  EachAre (t ∷ ts) [] = ⊥
  EachAre (t ∷ ts) (x ∷ xs) = AreRuns t x × EachAre ts xs

  abbrev pub all_before : List (ℕ × ℕ) → List (List Tour) → List Tour
  all_before ws xs = flat_map (λ x. map (before ws) x) xs

  record AllFrom (ws : List (ℕ × ℕ)) (ts : List Configuration) (xs : List (List Tour)) : Type 0 where
    bound : ℕ
    are : (n : ℕ) → bound ≤ n → flat_map (λ t. map (before ws) (runs_within n t)) ts ≡ all_before ws xs
    short : (t : Configuration) → Among ts t → (r : List Configuration) (j : ℕ) → Runs p hay t r j → length r < bound

  all_from : (ws : List (ℕ × ℕ)) (ts : List Configuration) (xs : List (List Tour)) → EachAre ts xs → AllFrom ws ts xs
  all_from ws [] [] each = record { bound = 0; are = λ n le. refl; short = λ t h. absurd h }
  all_from ws [] (x ∷ xs) each = absurd each
  all_from ws (t ∷ ts) [] each = absurd each
  all_from ws (t ∷ ts) (x ∷ xs) each =
      let more = all_from ws ts xs each.1 in
      record {
        bound = max each.0.bound more.bound;
        are = λ n le. ap₂ ◌++◌ (ap (map (before ws)) (each.0.are n (omega arith))) (more.are n (omega arith));
        short = λ u h r j runs. ⊎_elim
            (λ (e : t ≡ u). let lt = each.0.short r j (subst (λ (s : Configuration). Runs p hay s r j) (sym e) runs) in omega (arith, lt))
            (λ later. let lt = more.short u later r j runs in omega (arith, lt)) h;
      }

  step : (s : Configuration) (st : State) (xs : List (List Tour)) → state_at p.states s.state ≡ st → is_match st ≡ false →
      (rest : AllFrom (write_of st s.place) (edges hay st s.place) xs) → (n : ℕ) → suc rest.bound ≤ n →
      runs_within n s ≡ all_before (write_of st s.place) xs
  unfolding runs_within
  step s st xs is no_match rest zero le = absurd (omega arith)
  step s st xs is no_match rest (suc n) le = rw (is, no_match, rest.are n (omega arith)) refl

  step_short : (s : Configuration) (st : State) (xs : List (List Tour)) → state_at p.states s.state ≡ st → is_match st ≡ false →
      (rest : AllFrom (write_of st s.place) (edges hay st s.place) xs) → (r : List Configuration) (j : ℕ) → Runs p hay s r j → length r < suc rest.bound
  step_short s st xs is no_match rest [] j runs = omega arith
  step_short s st xs is no_match rest (t ∷ r) j runs =
      let lt = rest.short t (subst (λ (x : State). Among (edges hay x s.place) t) is runs.0) r j runs.1 in omega (arith, lt)

  -- the runs from a configuration are those from the configurations to which it leads
  pub AreRuns-step : (s : Configuration) (st : State) (xs : List (List Tour)) → state_at p.states s.state ≡ st → is_match st ≡ false →
      EachAre (edges hay st s.place) xs → AreRuns s (all_before (write_of st s.place) xs)
  AreRuns-step s st xs is no_match each =
      let rest = all_from (write_of st s.place) (edges hay st s.place) xs each in
      record { bound = suc rest.bound; are = step s st xs is no_match rest; short = step_short s st xs is no_match rest }

  abbrev pub same_runs : (s : Configuration) (a b : List Tour) → a ≡ b → AreRuns s a → AreRuns s b
  same_runs s a b e h = subst (AreRuns s) e h

  -- The runs from the part's entry are its traced parses, each with the runs from the part's exit.
  abbrev pub Does : Fragment → (ℕ → List TracedParse) → Type 0
  Does part traced_parses = (from to : ℕ) (used : List ℕ) → part from to used → (i : ℕ) (k : ℕ → List Tour) →
      Every (λ t. AreRuns (at to t.end) (k t.end)) (traced_parses i) → AreRuns (at from i) (onward (traced_parses i) k)

  -- a state with one edge at most
  pub One-does : (make : ℕ → State) (b : ℕ → Bool) (l : ℕ → ℕ) (es : ℕ → List Event) → ((to : ℕ) → is_match (make to) ≡ false) →
      ((to i : ℕ) → edges hay (make to) i ≡ cond (b i) (at to (l i) ∷ []) []) → ((to i : ℕ) → write_of (make to) i ≡ writes_of (es i)) →
      Does (One p.states make) (λ i. cond (b i) (traced (l i) (es i) ∷ []) [])
  unfolding onward
  One-does make b l es no_match edges_are writes_are from to used part i k each =
      same_runs (at from i) _ _
      (ap (λ ws. all_before ws (cond (b i) (k (l i) ∷ []) [])) (writes_are to i) ∙ same (b i))
      (AreRuns-step (at from i) (make to) (cond (b i) (k (l i) ∷ []) []) part.0 (no_match to)
      (subst (λ ts. EachAre ts (cond (b i) (k (l i) ∷ []) [])) (sym (edges_are to i)) (ready (b i) each)))
    where
      same : (c : Bool) → all_before (writes_of (es i)) (cond c (k (l i) ∷ []) []) ≡ onward (cond c (traced (l i) (es i) ∷ []) []) k
      same true = refl
      same false = refl

      ready : (c : Bool) → Every (λ t. AreRuns (at to t.end) (k t.end)) (cond c (traced (l i) (es i) ∷ []) []) →
          EachAre (cond c (at to (l i) ∷ []) []) (cond c (k (l i) ∷ []) [])
      ready true each = each
      ready false each = tt

  pub Behind-does : (first second : Fragment) (v w : ℕ → List TracedParse) → Does first v → Does second w →
      Does (Behind p.states first second) (λ i. behind (v i) w)
  Behind-does first second v w one two from to used (mid, a, b, h, g, e) i k each =
      same_runs (at from i) _ _ (sym (onward_twice (v i) w k))
      (one from mid a h i (λ l. onward (w l) k)
      (Every-also _ _ (v i) (λ t ready. two mid to b g t.end k ready)
      (Every-behind (λ l. AreRuns (at to l) (k l)) (v i) w each)))

  -- a choice between a round and leaving, in the order of preference
  choice_runs : (greedy : Bool) (q i round leave : ℕ) (x y : List Tour) → state_at p.states q ≡ choice p.states greedy round leave →
      AreRuns (at round i) x → AreRuns (at leave i) y → AreRuns (at q i) (if greedy then x ++ y else y ++ x)
  choice_runs true q i round leave x y is one two =
      same_runs (at q i) _ _ (ap₂ ◌++◌ (nothing_before x) (append-nil _ ∙ nothing_before y))
      (AreRuns-step (at q i) (choice p.states true round leave) (x ∷ y ∷ []) is refl (one, (two, tt)))
  choice_runs false q i round leave x y is one two =
      same_runs (at q i) _ _ (ap₂ ◌++◌ (nothing_before y) (append-nil _ ∙ nothing_before x))
      (AreRuns-step (at q i) (choice p.states false round leave) (y ∷ x ∷ []) is refl (two, (one, tt)))

  -- across a state that only leads on
  pub over : (q to i : ℕ) (x : List Tour) → state_at p.states q ≡ program.goto to None → AreRuns (at to i) x → AreRuns (at q i) x
  over q to i x is runs =
      same_runs (at q i) _ _ (append-nil _ ∙ nothing_before x) (AreRuns-step (at q i) (program.goto to None) (x ∷ []) is refl (runs, tt))

  assembled : (greedy : Bool) (q i round leave : ℕ) (vs : List TracedParse) (f : ℕ → List TracedParse) (k : ℕ → List Tour) →
      state_at p.states q ≡ choice p.states greedy round leave →
      AreRuns (at round i) (onward vs (λ l. onward (f l) k)) → AreRuns (at leave i) (k i) →
      AreRuns (at q i) (onward (if greedy then behind vs f ++ stay i ∷ [] else stay i ∷ behind vs f) k)
  unfolding onward
  assembled true q i round leave vs f k is one two =
      same_runs (at q i) _ _
      (sym (onward-append (behind vs f) (stay i ∷ []) k ∙ ap₂ ◌++◌ (onward_twice vs f k) (append-nil _ ∙ nothing_before (k i))))
      (choice_runs true q i round leave _ (k i) is one two)
  assembled false q i round leave vs f k is one two =
      same_runs (at q i) _ _
      (sym (ap₂ ◌++◌ (nothing_before (k i)) (onward_twice vs f k)))
      (choice_runs false q i round leave _ (k i) is one two)

  assembled_past : (greedy : Bool) (q i round leave : ℕ) (k : ℕ → List Tour) → state_at p.states q ≡ choice p.states greedy round leave →
      AreRuns (at round i) [] → AreRuns (at leave i) (k i) → AreRuns (at q i) (map (before []) (k i) ++ [])
  assembled_past true q i round leave k is one two =
      same_runs (at q i) _ _ (sym (append-nil _ ∙ nothing_before (k i))) (choice_runs true q i round leave [] (k i) is one two)
  assembled_past false q i round leave k is one two =
      same_runs (at q i) _ _ (append-nil _ ∙ sym (append-nil _ ∙ nothing_before (k i))) (choice_runs false q i round leave [] (k i) is one two)

  each_of : (greedy : Bool) (P : ℕ → Type 0) (i : ℕ) (ts : List TracedParse) →
      Every (λ t. P t.end) (if greedy then ts ++ stay i ∷ [] else stay i ∷ ts) → Every (λ t. P t.end) ts × P i
  each_of true P i ts each = let r = Every-append (λ t. P t.end) ts (stay i ∷ []) each in (r.0, r.1.0)
  each_of false P i ts each = (each.1, each.0)

  -- the traced parses end further on, within the haystack
  abbrev pub Advances : (ℕ → List TracedParse) → Type 0
  Advances traced_parses = (i : ℕ) → Every (λ t. (i < t.end) × (t.end ≤ length hay)) (traced_parses i)

  no_traced : (i : ℕ) (ts : List TracedParse) → length hay ≤ i → Every (λ t. (i < t.end) × (t.end ≤ length hay)) ts → ts ≡ []
  no_traced i [] past all = refl
  no_traced i (t ∷ ts) past all = absurd (omega (arith, all.0.0, all.0.1))

  module _ (greedy : Bool) (body : Fragment) (traced_parses : ℕ → List TracedParse) (does : Does body traced_parses) where
    module _ (advances : Advances traced_parses) where
      -- at the choice of a loop
      star_turns : (from to round : ℕ) (a : List ℕ) → body round from a → state_at p.states from ≡ choice p.states greedy round to →
          (n i : ℕ) (k : ℕ → List Tour) → length hay ≤ i + n → Every (λ t. AreRuns (at to t.end) (k t.end)) (up_to n greedy traced_parses i) →
          AreRuns (at from i) (onward (up_to n greedy traced_parses i) k)
      unfolding up_to onward
      star_turns from to round a h is zero i k room each =
          let none = no_traced i (traced_parses i) (omega arith) (advances i) in
          let dead = does round from a h i (λ l. []) (subst (Every (λ t. AreRuns (at from t.end) [])) (sym none) tt) in
          assembled_past greedy from i round to k is (subst (λ (ts : List TracedParse). AreRuns (at round i) (onward ts (λ l. []))) none dead) each.0
      star_turns from to round a h is (suc n) i k room each =
          let parts = each_of greedy (λ l. AreRuns (at to l) (k l)) i (behind (traced_parses i) (up_to n greedy traced_parses)) each in
          assembled greedy from i round to (traced_parses i) (up_to n greedy traced_parses) k is
          (does round from a h i (λ l. onward (up_to n greedy traced_parses l) k)
          (Every-both _ _ _ (traced_parses i) (λ t further later. star_turns from to round a h is n t.end k (omega (arith, further.0)) later) (advances i)
          (Every-behind (λ l. AreRuns (at to l) (k l)) (traced_parses i) (up_to n greedy traced_parses) parts.0)))
          parts.1

      pub Star-does : Does (Star p.states greedy body) (up_to (length hay) greedy traced_parses)
      Star-does from to used (round, a, h, is, e) i k each = star_turns from to round a h is (length hay) i k (omega arith) each

      pub Loop-does : Does (Loop p.states greedy body) (λ i. behind (traced_parses i) (up_to (length hay) greedy traced_parses))
      Loop-does from to used (again, a, h, is, e) i k each =
          same_runs (at from i) _ _ (sym (onward_twice (traced_parses i) (up_to (length hay) greedy traced_parses) k))
          (does from again a h i (λ l. onward (up_to (length hay) greedy traced_parses l) k)
          (Every-also _ _ (traced_parses i) (λ t later. star_turns again to from a h is (length hay) t.end k (omega arith) later)
          (Every-behind (λ l. AreRuns (at to l) (k l)) (traced_parses i) (up_to (length hay) greedy traced_parses) each)))

    Options-does : (n out : ℕ) → Does (Options p.states n greedy out body) (up_to n greedy traced_parses)
    unfolding up_to onward
    Options-does zero out from to used (start, end, e) i k each = grind (arith, common_steps, append-nil, nothing_before)
    Options-does (suc n) out from to used (round, mid, a, b, is, h, more, e) i k each =
        let parts = each_of greedy (λ l. AreRuns (at to l) (k l)) i (behind (traced_parses i) (up_to n greedy traced_parses)) each in
        assembled greedy from i round out (traced_parses i) (up_to n greedy traced_parses) k is
        (does round mid a h i (λ l. onward (up_to n greedy traced_parses l) k)
        (Every-also _ _ (traced_parses i) (λ t later. Options-does n out mid to b more t.end k later)
        (Every-behind (λ l. AreRuns (at to l) (k l)) (traced_parses i) (up_to n greedy traced_parses) parts.0)))
        (subst (λ q. AreRuns (at q i) (k i)) (options_end n mid to b more) parts.1)
      where
        options_end : (n mid to : ℕ) (b : List ℕ) → Options p.states n greedy out body mid to b → to ≡ out
        options_end zero mid to b h = h.1
        options_end (suc n) mid to b (round, next, c, d, is, h, more, e) = options_end n next to d more

    pub Bounded-does : (n : ℕ) → Does (Bounded p.states n greedy body) (up_to n greedy traced_parses)
    Bounded-does n from to used (out, a, h, goes, e) i k each =
        Options-does n out from out a h i k (Every-also _ _ (up_to n greedy traced_parses i) (λ t ready. over out to t.end (k t.end) goes ready) each)

    pub Copies-does : (n : ℕ) (rest : Fragment) (w : ℕ → List TracedParse) → Does rest w → Does (Copies p.states n body rest) (after_turns n traced_parses w)
    unfolding after_turns
    Copies-does zero rest w more = more
    Copies-does (suc n) rest w more = Behind-does body (Copies p.states n body rest) traced_parses (after_turns n traced_parses w) does (Copies-does n rest w more)
