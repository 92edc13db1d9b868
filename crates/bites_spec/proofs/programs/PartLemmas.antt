-- A run through a part of a program is a traced parse of the part's tree, and then a run from the part's exit.
use Rattle.std.proofs.lemmas.Grind.{common_steps}
use Rattle.std.proofs.Common.{◌≡◌, ℕ, zero, suc, ◌+◌, ◌-◌, ◌*◌, ◌<◌, ◌≤◌, Bool, true, false, cond, List, [], ◌∷◌, ◌++◌, map, length, Option, Some, None, refl, sym, ap, ap₂, ◌∙◌, subst, inl, inr, ⊎_elim, true≢false, arith, ◌⊎◌, append_assoc, append-nil}
use Rattle.std.specs.Prelude.{◌==◌}
use Rattle.std.proofs.lemmas.Bool.{and_parts}
use Rattle.bites_spec.specs.Look.{Look, holds}
use Rattle.bites_spec.specs.Walks.{Among}
use Rattle.bites_spec.specs.Range.{in_ranges}
use Rattle.bites_spec.specs.Tree.{Tree, Trees, empty, char, class, look, repetition, group, sequence, alternation, no_tree, tree_and, is_nullable, IsReduced, AllAreReduced, IsCount}
use Rattle.bites_spec.specs.Match.{IsWithin, Turns, Takes}
use Rattle.bites_spec.specs.Program.{State, Program, Configuration, at, state_at, edges, is_match, taking}
use Rattle.bites_spec.specs.Program as program
use Rattle.bites_spec.specs.Run.{Runs, writes, write_of}
use Rattle.bites_spec.specs.Built.{Fragment, One, Behind, Copies, Options, Loop, Star, OptionalLoop, Bounded, CopiesUpTo, Repeated, choice, class_state, HasForm, HasFormAll, HasFormEach}
use Rattle.bites_spec.proofs.parses.EventLemmas.{Event, opened, closed, writes_of, writes_of-append, Steps, StepsAll, StepsOne}

-- what a part may do: go from i to l with these events
abbrev pub Traces : Type 1
Traces = ℕ → ℕ → List Event → Type 0

abbrev pub Nothing : Traces
Nothing i l es = (l ≡ i) × (es ≡ [])

abbrev pub Both : Traces → Traces → Traces
Both R T i l es = (m : ℕ) × (a : List Event) × (b : List Event) × R i m a × T m l b × (es ≡ a ++ b)

-- n turns, for some n for which P holds
abbrev pub Several : (ℕ → Type 0) → Traces → Traces
Several P R i l es = (n : ℕ) × P n × Turns R n i l es

abbrev pub Any : ℕ → Type 0
Any n = Unit {0}

Among-cond : {A : Type 0} (b : Bool) (x y : A) → Among (cond b (x ∷ []) []) y → (b ≡ true) × (x ≡ y)
Among-cond true x y h = (refl, ⊎_elim (λ (e : x ≡ y). e) (λ (no : ⊥). absurd no) h)
Among-cond false x y h = absurd h

Among-only : {A : Type 0} (x y : A) → Among (x ∷ []) y → x ≡ y
Among-only x y h = ⊎_elim (λ (e : x ≡ y). e) (λ (no : ⊥). absurd no) h

Among-map_at : (qs : List ℕ) (i : ℕ) (t : Configuration) → Among (map (λ q. at q i) qs) t → (q : ℕ) × Among qs q × (at q i ≡ t)
Among-map_at [] i t h = absurd h
Among-map_at (q ∷ qs) i t h =
    ⊎_elim (λ (is : at q i ≡ t). (q, inl refl, is)) (λ later. let r = Among-map_at qs i t later in (r.0, inr r.1, r.2)) h

module _ (p : Program) (hay : List ℕ) where
  abbrev RunsTo : Configuration → List Configuration → ℕ → Type 0
  RunsTo = Runs p hay

  abbrev written : Configuration → List Configuration → List (ℕ × ℕ)
  written = writes p

  -- a traced parse to l, and a run from there that is no longer
  pub record Onward (R : Traces) (to i j n : ℕ) (ws : List (ℕ × ℕ)) : Type 0 where
    pub l : ℕ
    pub events : List Event
    pub parse : R i l events
    pub rest : List Configuration
    pub runs : RunsTo (at to l) rest j
    pub same : ws ≡ writes_of events ++ written (at to l) rest
    pub shorter : length rest ≤ n

  -- a run from the part's entry is a traced parse of it, and a run from its exit
  abbrev pub Leaves : Fragment → Traces → Type 0
  Leaves part R = (from to : ℕ) (used : List ℕ) → part from to used → (i j : ℕ) (r : List Configuration) →
      RunsTo (at from i) r j → Onward R to i j (length r) (written (at from i) r)

  also : (R T : Traces) (to i j n : ℕ) (ws : List (ℕ × ℕ)) → ((l : ℕ) (es : List Event) → R i l es → T i l es) → Onward R to i j n ws → Onward T to i j n ws
  also R T to i j n ws f x = record { l = x.l; events = x.events; parse = f x.l x.events x.parse; rest = x.rest; runs = x.runs; same = x.same; shorter = x.shorter }

  Leaves-also : (part : Fragment) (R T : Traces) → ((i l : ℕ) (es : List Event) → R i l es → T i l es) → Leaves part R → Leaves part T
  Leaves-also part R T f leaves from to used h i j r runs = also R T to i j (length r) _ (f i) (leaves from to used h i j r runs)

  -- a run that goes on from a state other than match
  record Stepped (s : State) (i j n : ℕ) (ws : List (ℕ × ℕ)) : Type 0 where
    next : Configuration
    rest : List Configuration
    edge : Among (edges hay s i) next
    runs : RunsTo next rest j
    len : n ≡ suc (length rest)
    same : ws ≡ write_of s i ++ written next rest

  stepped : (q i j : ℕ) (s : State) (r : List Configuration) → state_at p.states q ≡ s → is_match s ≡ false → RunsTo (at q i) r j →
      Stepped s i j (length r) (written (at q i) r)
  stepped q i j s [] is no_match runs = absurd (true≢false (sym runs.0 ∙ ap is_match is ∙ no_match))
  stepped q i j s (t ∷ r) is no_match runs = record {
    next = t;
    rest = r;
    edge = subst (λ (x : State). Among (edges hay x i) t) is runs.0;
    runs = runs.1;
    len = refl;
    same = ap (λ (x : State). write_of x i ++ written t r) is;
  }

  -- one state does R: each of its edges leads on as some trace of R does
  abbrev Does : (ℕ → State) → Traces → Type 0
  Does make R = (to i : ℕ) (t : Configuration) → Among (edges hay (make to) i) t →
      (l : ℕ) × (at to l ≡ t) × ((es : List Event) × R i l es × (write_of (make to) i ≡ writes_of es))

  One-leaves : (make : ℕ → State) (R : Traces) → ((to : ℕ) → is_match (make to) ≡ false) → Does make R → Leaves (One p.states make) R
  One-leaves make R no_match does from to used part i j r runs =
      let s = stepped from i j (make to) r part.0 (no_match to) runs in
      let d = does to i s.next s.edge in
      record {
        l = d.0;
        events = d.2.0;
        parse = d.2.1;
        rest = s.rest;
        runs = subst (λ (x : Configuration). RunsTo x s.rest j) (sym d.1) s.runs;
        same = s.same ∙ ap₂ ◌++◌ d.2.2 (ap (λ (x : Configuration). written x s.rest) (sym d.1));
        shorter = omega (arith, s.len);
      }

  Nothing-does : Does (λ to. program.goto to None) Nothing
  Nothing-does to i t h = (i, Among-only (at to i) t h, ([], (refl, refl), refl))

  look_does : (l : Look) → Does (λ to. program.goto to (Some l)) (Steps hay (look l))
  look_does l to i t h =
      let r = Among-cond (holds l hay i) (at to i) t h in (i, r.1, ([], (r.0, refl, refl), refl))

  takes : (test : ℕ → Bool) (q i : ℕ) (t : Configuration) → Among (taking hay test q i) t → (l : ℕ) × (at q l ≡ t) × Takes hay test i l
  takes test q i t h = grind (arith, common_steps, Among-cond, and_parts)

  char_does : (c : ℕ) → Does (λ to. program.char to c) (Steps hay (char c))
  char_does c to i t h = let r = takes (λ d. d == c) to i t h in (r.0, r.1, ([], (r.2, refl), refl))

  class_does : (rs : List (ℕ × ℕ)) → Does (class_state p.states rs) (Steps hay (class rs))
  class_does [] to i t h = absurd h
  class_does (r ∷ rs) to i t h = let x = takes (in_ranges (r ∷ rs)) to i t h in (x.0, x.1, ([], (x.2, refl), refl))

  class_no_match : (rs : List (ℕ × ℕ)) (to : ℕ) → is_match (class_state p.states rs to) ≡ false
  class_no_match [] to = refl
  class_no_match (r ∷ rs) to = refl

  abbrev Opens : ℕ → Traces
  Opens k i l es = (l ≡ i) × (es ≡ opened k i ∷ [])

  abbrev Closes : ℕ → ℕ → Traces
  Closes k b i l es = (l ≡ i) × (es ≡ closed k b i ∷ [])

  open_does : (k : ℕ) → Does (λ to. program.capture to (2 * k)) (Opens k)
  open_does k to i t h = (i, Among-only (at to i) t h, (opened k i ∷ [], (refl, refl), refl))

  close_does : (k b : ℕ) → Does (λ to. program.capture to (2 * k + 1)) (Closes k b)
  close_does k b to i t h = (i, Among-only (at to i) t h, (closed k b i ∷ [], (refl, refl), refl))

  Behind-leaves : (first second : Fragment) (R T : Traces) → Leaves first R → Leaves second T → Leaves (Behind p.states first second) (Both R T)
  Behind-leaves first second R T one two from to used (mid, a, b, h, k, e) i j r runs =
      let x = one from mid a h i j r runs in
      let y = two mid to b k x.l j x.rest x.runs in
      record {
        l = y.l;
        events = x.events ++ y.events;
        parse = (x.l, x.events, y.events, x.parse, y.parse, refl);
        rest = y.rest;
        runs = y.runs;
        same = x.same ∙ ap (λ w. writes_of x.events ++ w) y.same
            ∙ sym (ap (λ w. w ++ written (at to y.l) y.rest) (writes_of-append x.events y.events) ∙ append_assoc (writes_of x.events) (writes_of y.events) _);
        shorter = omega (arith, x.shorter, y.shorter);
      }

  -- a run that goes on at q, at the same place, and writes nothing
  record Went (q i j n : ℕ) (ws : List (ℕ × ℕ)) : Type 0 where
    rest : List Configuration
    runs : RunsTo (at q i) rest j
    len : n ≡ suc (length rest)
    same : ws ≡ written (at q i) rest

  went_to : (s : State) (q i j n : ℕ) (ws : List (ℕ × ℕ)) → write_of s i ≡ [] → (x : Stepped s i j n ws) → at q i ≡ x.next → Went q i j n ws
  went_to s q i j n ws none x is = record {
    rest = x.rest;
    runs = subst (λ (y : Configuration). RunsTo y x.rest j) (sym is) x.runs;
    len = x.len;
    same = x.same ∙ ap₂ ◌++◌ none (ap (λ (y : Configuration). written y x.rest) (sym is));
  }

  went_on : (q to i j : ℕ) (r : List Configuration) → state_at p.states q ≡ program.goto to None → RunsTo (at q i) r j → Went to i j (length r) (written (at q i) r)
  went_on q to i j r is runs =
      let s = stepped q i j (program.goto to None) r is refl runs in
      went_to (program.goto to None) to i j (length r) _ refl s (Among-only (at to i) s.next s.edge)

  two_cases : (x y t : Configuration) → Among (x ∷ y ∷ []) t → (x ≡ t) ⊎ (y ≡ t)
  two_cases x y t h = ⊎_elim (λ (e : x ≡ t). inl e) (λ later. inr (Among-only y t later)) h

  -- at a choice a run goes into the body or leaves
  choice_cases : (greedy : Bool) (round leave i : ℕ) (t : Configuration) → Among (edges hay (choice p.states greedy round leave) i) t →
      (at round i ≡ t) ⊎ (at leave i ≡ t)
  choice_cases true round leave i t h = two_cases (at round i) (at leave i) t h
  choice_cases false round leave i t h = ⊎_elim inr inl (two_cases (at leave i) (at round i) t h)

  chosen : (greedy : Bool) (q round leave i j : ℕ) (r : List Configuration) → state_at p.states q ≡ choice p.states greedy round leave → RunsTo (at q i) r j →
      Went round i j (length r) (written (at q i) r) ⊎ Went leave i j (length r) (written (at q i) r)
  chosen greedy q round leave i j r is runs =
      let s = stepped q i j (choice p.states greedy round leave) r is refl runs in
      ⊎_elim (λ e. inl (went_to (choice p.states greedy round leave) round i j (length r) _ refl s e))
      (λ e. inr (went_to (choice p.states greedy round leave) leave i j (length r) _ refl s e))
      (choice_cases greedy round leave i s.next s.edge)

  -- no turn; below it, one turn before some others
  none_more : (P : ℕ → Type 0) (R : Traces) (to i j n : ℕ) (ws : List (ℕ × ℕ)) → P 0 → Went to i j n ws → Onward (Several P R) to i j n ws
  none_more P R to i j n ws at_zero w =
      record { l = i; events = []; parse = (zero, at_zero, (refl, refl)); rest = w.rest; runs = w.runs; same = w.same; shorter = omega (arith, w.len) }

  one_more : (P Q : ℕ → Type 0) (R : Traces) (mid to i j n : ℕ) (ws : List (ℕ × ℕ)) → ((m : ℕ) → P m → Q (suc m)) → (x : Onward R mid i j n ws) →
      Onward (Several P R) to x.l j (length x.rest) (written (at mid x.l) x.rest) → Onward (Several Q R) to i j n ws
  one_more P Q R mid to i j n ws f x y = record {
    l = y.l;
    events = x.events ++ y.events;
    parse = (suc y.parse.0, f y.parse.0 y.parse.1, (x.l, x.events, y.events, x.parse, y.parse.2, refl));
    rest = y.rest;
    runs = y.runs;
    same = x.same ∙ ap (λ w. writes_of x.events ++ w) y.same
        ∙ sym (ap (λ w. w ++ written (at to y.l) y.rest) (writes_of-append x.events y.events) ∙ append_assoc (writes_of x.events) (writes_of y.events) _);
    shorter = omega (arith, x.shorter, y.shorter);
  }

  longer : (R : Traces) (to i j n m : ℕ) (ws vs : List (ℕ × ℕ)) → m ≤ n → ws ≡ vs → Onward R to i j m vs → Onward R to i j n ws
  longer R to i j n m ws vs le e x =
      record { l = x.l; events = x.events; parse = x.parse; rest = x.rest; runs = x.runs; same = e ∙ x.same; shorter = omega (arith, x.shorter) }

  module _ (greedy : Bool) (body : Fragment) (R : Traces) (inside : Leaves body R) where
    star_rounds : (from to round : ℕ) (a : List ℕ) → body round from a → state_at p.states from ≡ choice p.states greedy round to →
        (n i j : ℕ) (r : List Configuration) → length r < n → RunsTo (at from i) r j → Onward (Several Any R) to i j (length r) (written (at from i) r)
    star_rounds from to round a h is zero i j r le runs = absurd (omega arith)
    star_rounds from to round a h is (suc n) i j r le runs =
        ⊎_elim
        (λ (w : Went round i j (length r) (written (at from i) r)).
        let x = inside round from a h i j w.rest w.runs in
        longer (Several Any R) to i j (length r) (length w.rest) _ _ (omega (arith, w.len)) w.same
        (one_more Any Any R from to i j (length w.rest) _ (λ m u. tt) x
        (star_rounds from to round a h is n x.l j x.rest (omega (arith, x.shorter, w.len)) x.runs)))
        (λ w. none_more Any R to i j (length r) _ tt w)
        (chosen greedy from round to i j r is runs)

    Star-leaves : Leaves (Star p.states greedy body) (Several Any R)
    Star-leaves from to used (round, a, h, is, e) i j r runs =
        star_rounds from to round a h is (suc (length r)) i j r (omega arith) runs

    loop_rounds : (from to again : ℕ) (a : List ℕ) → body from again a → state_at p.states again ≡ choice p.states greedy from to →
        (n i j : ℕ) (r : List Configuration) → length r < n → RunsTo (at from i) r j → Onward (Several (λ m. 1 ≤ m) R) to i j (length r) (written (at from i) r)
    loop_rounds from to again a h is zero i j r le runs = absurd (omega arith)
    loop_rounds from to again a h is (suc n) i j r le runs =
        let x = inside from again a h i j r runs in
        one_more Any (λ m. 1 ≤ m) R again to i j (length r) _ (λ m u. omega arith) x
        (⊎_elim
        (λ (w : Went from x.l j (length x.rest) (written (at again x.l) x.rest)).
        longer (Several Any R) to x.l j (length x.rest) (length w.rest) _ _ (omega (arith, w.len)) w.same
        (also (Several (λ m. 1 ≤ m) R) (Several Any R) to x.l j (length w.rest) _ (λ l es y. (y.0, tt, y.2))
        (loop_rounds from to again a h is n x.l j w.rest (omega (arith, x.shorter, w.len)) w.runs)))
        (λ w. none_more Any R to x.l j (length x.rest) _ tt w)
        (chosen greedy again from to x.l j x.rest is x.runs))

    Loop-leaves : Leaves (Loop p.states greedy body) (Several (λ m. 1 ≤ m) R)
    Loop-leaves from to used (again, a, h, is, e) i j r runs =
        loop_rounds from to again a h is (suc (length r)) i j r (omega arith) runs

    OptionalLoop-leaves : Leaves (OptionalLoop p.states greedy body) (Several Any R)
    OptionalLoop-leaves from to used (round, out, a, loop, is, goes, e) i j r runs =
        ⊎_elim
        (λ (w : Went round i j (length r) (written (at from i) r)).
        let x = Loop-leaves round out a loop i j w.rest w.runs in
        let v = went_on out to x.l j x.rest goes x.runs in
        record {
          l = x.l;
          events = x.events;
          parse = (x.parse.0, tt, x.parse.2);
          rest = v.rest;
          runs = v.runs;
          same = w.same ∙ x.same ∙ ap (λ ws. writes_of x.events ++ ws) v.same;
          shorter = omega (arith, w.len, x.shorter, v.len);
        })
        (λ (w : Went out i j (length r) (written (at from i) r)).
        let v = went_on out to i j w.rest goes w.runs in
        record { l = i; events = []; parse = (zero, tt, (refl, refl)); rest = v.rest; runs = v.runs; same = w.same ∙ v.same; shorter = omega (arith, w.len, v.len) })
        (chosen greedy from round out i j r is runs)

    Options-leaves : (n out : ℕ) → Leaves (Options p.states n greedy out body) (Several (λ m. m ≤ n) R)
    Options-leaves zero out from to used (start, end, e) i j r runs = record {
      l = i;
      events = [];
      parse = (zero, omega arith, (refl, refl));
      rest = r;
      runs = subst (λ q. RunsTo (at q i) r j) start runs;
      same = ap (λ q. written (at q i) r) start;
      shorter = omega arith;
    }
    Options-leaves (suc n) out from to used (round, mid, a, b, is, h, more, e) i j r runs =
        ⊎_elim
        (λ (w : Went round i j (length r) (written (at from i) r)).
        let x = inside round mid a h i j w.rest w.runs in
        longer (Several (λ m. m ≤ suc n) R) to i j (length r) (length w.rest) _ _ (omega (arith, w.len)) w.same
        (one_more (λ m. m ≤ n) (λ m. m ≤ suc n) R mid to i j (length w.rest) _ (λ m le. omega arith) x
        (Options-leaves n out mid to b more x.l j x.rest x.runs)))
        (λ (w : Went out i j (length r) (written (at from i) r)).
        let is_out : to ≡ out = options_end n mid to b more in
        none_more (λ m. m ≤ suc n) R to i j (length r) _ (omega arith)
        (subst (λ q. Went q i j (length r) (written (at from i) r)) (sym is_out) w))
        (chosen greedy from round out i j r is runs)
      where
        options_end : (n mid to : ℕ) (b : List ℕ) → Options p.states n greedy out body mid to b → to ≡ out
        options_end zero mid to b h = h.1
        options_end (suc n) mid to b (round, next, c, d, is, h, more, e) = options_end n next to d more

    Bounded-leaves : (n : ℕ) → Leaves (Bounded p.states n greedy body) (Several (λ m. m ≤ n) R)
    Bounded-leaves n from to used (out, a, h, goes, e) i j r runs =
        let x = Options-leaves n out from out a h i j r runs in
        let v = went_on out to x.l j x.rest goes x.runs in
        record {
          l = x.l;
          events = x.events;
          parse = x.parse;
          rest = v.rest;
          runs = v.runs;
          same = x.same ∙ ap (λ ws. writes_of x.events ++ ws) v.same;
          shorter = omega (arith, x.shorter, v.len);
        }

    once : Leaves body (Several (λ m. m ≡ 1) R)
    once = Leaves-also body R (Several (λ m. m ≡ 1) R) (λ i l es h. (1, refl, (l, es, [], h, (refl, refl), sym (append-nil es)))) inside

    Copies-leaves : (n : ℕ) (rest : Fragment) (P : ℕ → Type 0) → Leaves rest (Several P R) →
        Leaves (Copies p.states n body rest) (Several (λ m. (k : ℕ) × P k × (m ≡ n + k)) R)
    Copies-leaves zero rest P leaves =
        Leaves-also rest (Several P R) (Several (λ m. (k : ℕ) × P k × (m ≡ 0 + k)) R)
        (λ i l es h. (h.0, (h.0, h.1, omega arith), h.2)) leaves
    Copies-leaves (suc n) rest P leaves =
        Leaves-also (Behind p.states body (Copies p.states n body rest)) (Both R (Several (λ m. (k : ℕ) × P k × (m ≡ n + k)) R))
        (Several (λ m. (k : ℕ) × P k × (m ≡ suc n + k)) R)
        (λ i l es h. let m = h.4.0 in let c = h.4.1 in
        (suc m, (c.0, c.1, omega (arith, c.2)), (h.0, h.1, h.2, h.3, h.4.2, h.5)))
        (Behind-leaves body (Copies p.states n body rest) R (Several (λ m. (k : ℕ) × P k × (m ≡ n + k)) R) inside (Copies-leaves n rest P leaves))

    CopiesUpTo-leaves : (n more : ℕ) → Leaves (CopiesUpTo p.states n more greedy body) (Several (λ m. (suc n ≤ m) × (m ≤ suc n + more)) R)
    CopiesUpTo-leaves n zero =
        Leaves-also (Copies p.states n body body) (Several (λ m. (k : ℕ) × (k ≡ 1) × (m ≡ n + k)) R) (Several (λ m. (suc n ≤ m) × (m ≤ suc n + 0)) R)
        (λ i l es h. let c = h.1 in (h.0, (omega (arith, c.1, c.2), omega (arith, c.1, c.2)), h.2))
        (Copies-leaves n body (λ m. m ≡ 1) once)
    CopiesUpTo-leaves n (suc more) =
        Leaves-also (Copies p.states (suc n) body (Bounded p.states (suc more) greedy body))
        (Several (λ m. (k : ℕ) × (k ≤ suc more) × (m ≡ suc n + k)) R) (Several (λ m. (suc n ≤ m) × (m ≤ suc n + suc more)) R)
        (λ i l es h. let c = h.1 in (h.0, (omega (arith, c.2), omega (arith, c.1, c.2)), h.2))
        (Copies-leaves (suc n) (Bounded p.states (suc more) greedy body) (λ m. m ≤ suc more) (Bounded-leaves (suc more)))

    Repeated-leaves : (min : ℕ) (most : Option ℕ) (is_empty : Bool) → IsCount min most →
        Leaves (Repeated p.states min most greedy is_empty body) (λ i l es. (n : ℕ) × (min ≤ n) × IsWithin most n × Turns R n i l es)
    Repeated-leaves zero None true is_count =
        Leaves-also _ (Several Any R) _ (λ i l es h. (h.0, omega arith, tt, h.2)) OptionalLoop-leaves
    Repeated-leaves zero None false is_count =
        Leaves-also _ (Several Any R) _ (λ i l es h. (h.0, omega arith, tt, h.2)) Star-leaves
    Repeated-leaves (suc n) None is_empty is_count =
        Leaves-also _ (Several (λ m. (k : ℕ) × (1 ≤ k) × (m ≡ n + k)) R) _
        (λ i l es h. let c = h.1 in (h.0, omega (arith, c.1, c.2), tt, h.2))
        (Copies-leaves n (Loop p.states greedy body) (λ m. 1 ≤ m) Loop-leaves)
    Repeated-leaves zero (Some zero) is_empty is_count =
        Leaves-also _ Nothing _ (λ i l es h. (0, omega arith, omega arith, h))
        (One-leaves (λ to. program.goto to None) Nothing (λ to. refl) Nothing-does)
    Repeated-leaves zero (Some (suc zero)) is_empty is_count =
        Leaves-also _ (Several (λ m. m ≤ 1) R) _ (λ i l es h. (h.0, omega arith, h.1, h.2)) (Bounded-leaves 1)
    Repeated-leaves zero (Some (suc (suc m))) is_empty is_count =
        Leaves-also _ (Both Nothing (Several (λ k. k ≤ suc (suc m)) R)) _
        (λ i l es h.
        let more = h.4 in (
          more.0,
          omega arith,
          more.1,
          subst (λ x. Turns R more.0 x l es) h.3.0 (subst (λ x. Turns R more.0 h.0 l x) (sym (h.5 ∙ ap (λ x. x ++ h.2) h.3.1)) more.2),
        ))
        (Behind-leaves (One p.states (λ to. program.goto to None)) (Bounded p.states (suc (suc m)) greedy body) Nothing (Several (λ k. k ≤ suc (suc m)) R)
        (One-leaves (λ to. program.goto to None) Nothing (λ to. refl) Nothing-does) (Bounded-leaves (suc (suc m))))
    Repeated-leaves (suc n) (Some most) is_empty is_count =
        Leaves-also _ (Several (λ m. (suc n ≤ m) × (m ≤ suc n + (most - suc n))) R) _
        (λ i l es h. let c = h.1 in (h.0, c.0, omega (arith, c.1, is_count.0), h.2))
        (CopiesUpTo-leaves n (most - suc n))

  group_trace : (k : ℕ) (name : Option (List ℕ)) (t : Tree) (i l : ℕ) (es : List Event) → Both (Opens k) (Both (Steps hay t) (Closes k i)) i l es →
      Steps hay (group k name t) i l es
  group_trace k name t i l es (m, a, b, (m_is, a_is), (n, c, d, steps, (l_is, d_is), b_is), es_is) = grind (arith, common_steps)

  pub group-leaves : (k : ℕ) (name : Option (List ℕ)) (t : Tree) → Leaves (HasForm p.states t) (Steps hay t) →
      Leaves (HasForm p.states (group k name t)) (Steps hay (group k name t))
  group-leaves k name t leaves from to used h i j r runs =
      also (Both (Opens k) (Both (Steps hay t) (Closes k i))) (Steps hay (group k name t)) to i j (length r) _ (group_trace k name t i)
      (Behind-leaves (One p.states (λ to. program.capture to (2 * k)))
      (Behind p.states (HasForm p.states t) (One p.states (λ to. program.capture to (2 * k + 1)))) (Opens k) (Both (Steps hay t) (Closes k i))
      (One-leaves (λ to. program.capture to (2 * k)) (Opens k) (λ to. refl) (open_does k))
      (Behind-leaves (HasForm p.states t) (One p.states (λ to. program.capture to (2 * k + 1))) (Steps hay t) (Closes k i) leaves
      (One-leaves (λ to. program.capture to (2 * k + 1)) (Closes k i) (λ to. refl) (close_does k i)))
      from to used h i j r runs)

  mutual
    -- Each run through a part is a traced parse of its tree.
    pub HasForm-leaves : (t : Tree) → IsReduced t → Leaves (HasForm p.states t) (Steps hay t)
    HasForm-leaves empty reduced = One-leaves (λ to. program.goto to None) (Steps hay empty) (λ to. refl) Nothing-does
    HasForm-leaves (char c) reduced = One-leaves (λ to. program.char to c) (Steps hay (char c)) (λ to. refl) (char_does c)
    HasForm-leaves (class rs) reduced = One-leaves (class_state p.states rs) (Steps hay (class rs)) (class_no_match rs) (class_does rs)
    HasForm-leaves (look l) reduced = One-leaves (λ to. program.goto to (Some l)) (Steps hay (look l)) (λ to. refl) (look_does l)
    HasForm-leaves (repetition min most greedy t) reduced =
        Repeated-leaves greedy (HasForm p.states t) (Steps hay t) (HasForm-leaves t reduced.1) min most (is_nullable t) reduced.0
    HasForm-leaves (group k name t) reduced = group-leaves k name t (HasForm-leaves t reduced.1)
    HasForm-leaves (sequence ts) reduced = HasFormAll-leaves ts reduced.1
    HasForm-leaves (alternation ts) reduced = λ from to used h i j r runs.
        let s = stepped from i j (program.splits h.1 false) r h.3 refl runs in
        let m = Among-map_at h.1 i s.next s.edge in
        let w = went_to (program.splits h.1 false) m.0 i j (length r) _ refl s m.2 in
        let x = HasFormEach-leaves ts reduced.1 h.1 h.0 h.2 h.4 m.0 m.1 i j w.rest w.runs in
        let v = went_on h.0 to x.l j x.rest h.5 x.runs in
        record {
          l = x.l;
          events = x.events;
          parse = x.parse;
          rest = v.rest;
          runs = v.runs;
          same = w.same ∙ x.same ∙ ap (λ ws. writes_of x.events ++ ws) v.same;
          shorter = omega (arith, w.len, x.shorter, v.len);
        }

    HasFormAll-leaves : (ts : Trees) → AllAreReduced ts → Leaves (HasFormAll p.states ts) (StepsAll hay ts)
    HasFormAll-leaves no_tree reduced = λ from to used h i j r runs. record {
      l = i;
      events = [];
      parse = (refl, refl);
      rest = r;
      runs = subst (λ q. RunsTo (at q i) r j) h.0 runs;
      same = ap (λ q. written (at q i) r) h.0;
      shorter = omega arith;
    }
    HasFormAll-leaves (tree_and t ts) reduced =
        Behind-leaves (HasForm p.states t) (HasFormAll p.states ts) (Steps hay t) (StepsAll hay ts)
        (HasForm-leaves t reduced.0) (HasFormAll-leaves ts reduced.1)

    HasFormEach-leaves : (ts : Trees) → AllAreReduced ts → (rounds : List ℕ) (out : ℕ) (used : List ℕ) → HasFormEach p.states ts rounds out used →
        (q : ℕ) → Among rounds q → (i j : ℕ) (r : List Configuration) → RunsTo (at q i) r j → Onward (StepsOne hay ts) out i j (length r) (written (at q i) r)
    HasFormEach-leaves no_tree reduced [] out used h q among i j r runs = absurd among
    HasFormEach-leaves no_tree reduced (x ∷ rounds) out used h q among i j r runs = absurd h
    HasFormEach-leaves (tree_and t ts) reduced [] out used h q among i j r runs = absurd among
    HasFormEach-leaves (tree_and t ts) reduced (x ∷ rounds) out used (a, b, one, more, e) q among i j r runs =
        ⊎_elim
        (λ (here : x ≡ q).
        also (Steps hay t) (StepsOne hay (tree_and t ts)) out i j (length r) _ (λ l es h. inl h)
        (HasForm-leaves t reduced.0 q out a (subst (λ y. HasForm p.states t y out a) here one) i j r runs))
        (λ (later : Among rounds q).
        also (StepsOne hay ts) (StepsOne hay (tree_and t ts)) out i j (length r) _ (λ l es h. inr h)
        (HasFormEach-leaves ts reduced.1 rounds out b more q later i j r runs))
        among
