-- A traced parse of a part's tree, and a run from the part's exit, make a run through the part.
use Rattle.std.proofs.lemmas.Grind.{common_steps}
use Rattle.std.proofs.Common.{◌≡◌, ℕ, zero, suc, ◌+◌, ◌-◌, ◌*◌, ◌≤◌, Bool, true, false, cond, List, [], ◌∷◌, ◌++◌, map, Option, Some, None, refl, sym, ap, ap₂, ◌∙◌, subst, inl, inr, ⊎_elim, true≢false, arith, append_assoc}
use Rattle.std.specs.Prelude.{◌==◌, ◌&&◌}
use Rattle.bites_spec.specs.Look.{Look, holds}
use Rattle.bites_spec.specs.Walks.{Among}
use Rattle.bites_spec.specs.Range.{in_ranges}
use Rattle.bites_spec.specs.Tree.{Tree, Trees, empty, char, class, look, repetition, group, sequence, alternation, no_tree, tree_and, is_nullable, IsReduced, AllAreReduced, IsCount}
use Rattle.bites_spec.specs.Match.{IsWithin, Turns, Takes}
use Rattle.bites_spec.specs.Program.{State, Program, Configuration, at, state_at, edges, taking}
use Rattle.bites_spec.specs.Program as program
use Rattle.bites_spec.specs.Run.{Runs, writes, write_of}
use Rattle.bites_spec.specs.Built.{Fragment, One, Behind, Copies, Options, Loop, Star, OptionalLoop, Bounded, CopiesUpTo, Repeated, choice, class_state, HasForm, HasFormAll, HasFormEach}
use Rattle.bites_spec.proofs.parses.EventLemmas.{Event, opened, closed, writes_of, writes_of-append, Steps, StepsAll, StepsOne}
use Rattle.bites_spec.proofs.programs.PartLemmas.{Traces, Nothing, Both, Several, Any}

Among-to : (qs : List ℕ) (i q : ℕ) → Among qs q → Among (map (λ q. at q i) qs) (at q i)
Among-to [] i q h = absurd h
Among-to (x ∷ qs) i q h = ⊎_elim (λ (e : x ≡ q). inl (ap (λ q. at q i) e)) (λ later. inr (Among-to qs i q later)) h

module _ (p : Program) (hay : List ℕ) where
  abbrev RunsTo : Configuration → List Configuration → ℕ → Type 0
  RunsTo = Runs p hay

  abbrev written : Configuration → List Configuration → List (ℕ × ℕ)
  written = writes p

  -- a run from s to j with these writes
  pub record Entered (s : Configuration) (j : ℕ) (ws : List (ℕ × ℕ)) : Type 0 where
    pub configurations : List Configuration
    pub runs : RunsTo s configurations j
    pub same : written s configurations ≡ ws

  abbrev pub Enters : Fragment → Traces → Type 0
  Enters part R = (from to : ℕ) (used : List ℕ) → part from to used → (i l : ℕ) (es : List Event) → R i l es →
      (j : ℕ) (rest : List Configuration) → RunsTo (at to l) rest j → Entered (at from i) j (writes_of es ++ written (at to l) rest)

  renamed : (s : Configuration) (j : ℕ) (ws vs : List (ℕ × ℕ)) → ws ≡ vs → Entered s j ws → Entered s j vs
  renamed s j ws vs e x = record { configurations = x.configurations; runs = x.runs; same = x.same ∙ e }

  Enters-also : (part : Fragment) (R T : Traces) → ((i l : ℕ) (es : List Event) → T i l es → R i l es) → Enters part R → Enters part T
  Enters-also part R T f enters from to used h i l es parse j rest runs = enters from to used h i l es (f i l es parse) j rest runs

  -- an edge, and a run from where it leads
  step_in : (q i j : ℕ) (s : State) (t : Configuration) (rest : List Configuration) → state_at p.states q ≡ s → Among (edges hay s i) t → RunsTo t rest j →
      Entered (at q i) j (write_of s i ++ written t rest)
  step_in q i j s t rest is edge runs = record {
    configurations = t ∷ rest;
    runs = (subst (λ (x : State). Among (edges hay x i) t) (sym is) edge, runs);
    same = ap (λ (x : State). write_of x i ++ written t rest) is;
  }

  abbrev DoesTo : (ℕ → State) → Traces → Type 0
  DoesTo make R = (to i l : ℕ) (es : List Event) → R i l es → Among (edges hay (make to) i) (at to l) × (write_of (make to) i ≡ writes_of es)

  One-enters : (make : ℕ → State) (R : Traces) → DoesTo make R → Enters (One p.states make) R
  One-enters make R does from to used part i l es parse j rest runs =
      let d = does to i l es parse in
      renamed (at from i) j _ _ (ap (λ ws. ws ++ written (at to l) rest) d.1) (step_in from i j (make to) (at to l) rest part.0 d.0 runs)

  Among-if : {A : Type 0} (b : Bool) (x : A) → b ≡ true → Among (cond b (x ∷ []) []) x
  Among-if b x e = rw e (inl refl)

  Nothing-to : DoesTo (λ to. program.goto to None) Nothing
  Nothing-to to i l es (l_is, es_is) = (inl (ap (at to) (sym l_is)), sym (ap writes_of es_is))

  look_to : (l : Look) → DoesTo (λ to. program.goto to (Some l)) (Steps hay (look l))
  look_to l to i m es (holds_is, m_is, es_is) =
      (subst (λ x. Among (cond (holds l hay i) (at to i ∷ []) []) (at to x)) (sym m_is) (Among-if (holds l hay i) (at to i) holds_is), sym (ap writes_of es_is))

  and_of : (a b : Bool) → a ≡ true → b ≡ true → (a && b) ≡ true
  and_of a b e f = rw (e, f) refl

  takes_to : (test : ℕ → Bool) (q i l : ℕ) → Takes hay test i l → Among (taking hay test q i) (at q l)
  takes_to test q i l (some, passes, l_is) = grind (arith, common_steps, Among-if, and_of)

  char_to : (c : ℕ) → DoesTo (λ to. program.char to c) (Steps hay (char c))
  char_to c to i l es (takes, es_is) = (takes_to (λ d. d == c) to i l takes, sym (ap writes_of es_is))

  class_to : (rs : List (ℕ × ℕ)) → DoesTo (class_state p.states rs) (Steps hay (class rs))
  class_to [] to i l es (takes, es_is) = absurd (true≢false (sym takes.1))
  class_to (r ∷ rs) to i l es (takes, es_is) = (takes_to (in_ranges (r ∷ rs)) to i l takes, sym (ap writes_of es_is))

  abbrev Opens : ℕ → Traces
  Opens k i l es = (l ≡ i) × (es ≡ opened k i ∷ [])

  abbrev Closes : ℕ → ℕ → Traces
  Closes k b i l es = (l ≡ i) × (es ≡ closed k b i ∷ [])

  open_to : (k : ℕ) → DoesTo (λ to. program.capture to (2 * k)) (Opens k)
  open_to k to i l es (l_is, es_is) = (inl (ap (at to) (sym l_is)), sym (ap writes_of es_is))

  close_to : (k b : ℕ) → DoesTo (λ to. program.capture to (2 * k + 1)) (Closes k b)
  close_to k b to i l es (l_is, es_is) = (inl (ap (at to) (sym l_is)), sym (ap writes_of es_is))

  -- the events a, and after them the events b
  joined : (s t : Configuration) (j : ℕ) (a b : List Event) (vs : List (ℕ × ℕ)) (x : Entered t j (writes_of b ++ vs)) →
      Entered s j (writes_of a ++ written t x.configurations) → Entered s j (writes_of (a ++ b) ++ vs)
  joined s t j a b vs x y = grind (arith, common_steps, renamed, append_assoc, writes_of-append)

  Behind-enters : (first second : Fragment) (R T : Traces) → Enters first R → Enters second T → Enters (Behind p.states first second) (Both R T)
  Behind-enters first second R T one two from to used (mid, c, d, h, k, e) i l es (m, a, b, parse, more, es_is) j rest runs =
      let x = two mid to d k m l b more j rest runs in
      let y = one from mid c h i m a parse j x.configurations x.runs in
      renamed (at from i) j _ _ (ap (λ es. writes_of es ++ written (at to l) rest) (sym es_is))
      (joined (at from i) (at mid m) j a b (written (at to l) rest) x y)

  -- a choice has an edge into the body; below it, an edge out
  round_edge : (greedy : Bool) (round leave i : ℕ) → Among (edges hay (choice p.states greedy round leave) i) (at round i)
  round_edge true round leave i = inl refl
  round_edge false round leave i = inr (inl refl)

  leave_edge : (greedy : Bool) (round leave i : ℕ) → Among (edges hay (choice p.states greedy round leave) i) (at leave i)
  leave_edge true round leave i = inr (inl refl)
  leave_edge false round leave i = inl refl

  -- from a choice into the body; below it, from a choice out
  into : (greedy : Bool) (q round leave i j : ℕ) (ws : List (ℕ × ℕ)) → state_at p.states q ≡ choice p.states greedy round leave →
      Entered (at round i) j ws → Entered (at q i) j ws
  into greedy q round leave i j ws is x =
      renamed (at q i) j _ _ x.same (step_in q i j (choice p.states greedy round leave) (at round i) x.configurations is (round_edge greedy round leave i) x.runs)

  out_of : (greedy : Bool) (q round leave i j : ℕ) (ws : List (ℕ × ℕ)) → state_at p.states q ≡ choice p.states greedy round leave →
      Entered (at leave i) j ws → Entered (at q i) j ws
  out_of greedy q round leave i j ws is x =
      renamed (at q i) j _ _ x.same (step_in q i j (choice p.states greedy round leave) (at leave i) x.configurations is (leave_edge greedy round leave i) x.runs)

  -- across a state that only leads on
  over : (q to i j : ℕ) (rest : List Configuration) → state_at p.states q ≡ program.goto to None → RunsTo (at to i) rest j →
      Entered (at q i) j (written (at to i) rest)
  over q to i j rest is runs = step_in q i j (program.goto to None) (at to i) rest is (inl refl) runs

  stays : (s : Configuration) (j : ℕ) (rest : List Configuration) → RunsTo s rest j → Entered s j (written s rest)
  stays s j rest runs = record { configurations = rest; runs = runs; same = refl }

  -- where no turn is left, the traced parse ends here
  at_end : (q to i l j : ℕ) (es : List Event) (rest : List Configuration) → l ≡ i → es ≡ [] →
      Entered (at q i) j (written (at to i) rest) → Entered (at q i) j (writes_of es ++ written (at to l) rest)
  at_end q to i l j es rest l_is es_is x =
      renamed (at q i) j _ _ (sym (ap₂ (λ ws x. ws ++ written (at to x) rest) (ap writes_of es_is) l_is)) x

  back : (to i l j : ℕ) (rest : List Configuration) → l ≡ i → RunsTo (at to l) rest j → RunsTo (at to i) rest j
  back to i l j rest l_is runs = subst (λ x. RunsTo (at to x) rest j) l_is runs

  module _ (greedy : Bool) (body : Fragment) (R : Traces) (inside : Enters body R) where
    -- one turn, and after it what is entered where the turn leads
    turn : (from mid : ℕ) (a : List ℕ) → body from mid a → (i m j : ℕ) (first more es : List Event) (vs : List (ℕ × ℕ)) →
        R i m first → es ≡ first ++ more → Entered (at mid m) j (writes_of more ++ vs) → Entered (at from i) j (writes_of es ++ vs)
    turn from mid a h i m j first more es vs parse es_is x =
        renamed (at from i) j _ _ (ap (λ es. writes_of es ++ vs) (sym es_is))
        (joined (at from i) (at mid m) j first more vs x (inside from mid a h i m first parse j x.configurations x.runs))

    star_in : (from to round : ℕ) (a : List ℕ) → body round from a → state_at p.states from ≡ choice p.states greedy round to →
        (n i l : ℕ) (es : List Event) → Turns R n i l es → (j : ℕ) (rest : List Configuration) → RunsTo (at to l) rest j →
        Entered (at from i) j (writes_of es ++ written (at to l) rest)
    star_in from to round a h is zero i l es (l_is, es_is) j rest runs =
        at_end from to i l j es rest l_is es_is
        (out_of greedy from round to i j _ is (stays (at to i) j rest (back to i l j rest l_is runs)))
    star_in from to round a h is (suc n) i l es (m, first, more, parse, turns, es_is) j rest runs =
        into greedy from round to i j _ is
        (turn round from a h i m j first more es _ parse es_is (star_in from to round a h is n m l more turns j rest runs))

    Star-enters : Enters (Star p.states greedy body) (Several Any R)
    Star-enters from to used (round, a, h, is, e) i l es (n, u, turns) j rest runs = star_in from to round a h is n i l es turns j rest runs

    loop_in : (from to again : ℕ) (a : List ℕ) → body from again a → state_at p.states again ≡ choice p.states greedy from to →
        (n i l : ℕ) (es : List Event) → Turns R (suc n) i l es → (j : ℕ) (rest : List Configuration) → RunsTo (at to l) rest j →
        Entered (at from i) j (writes_of es ++ written (at to l) rest)
    loop_in from to again a h is zero i l es (m, first, more, parse, (l_is, more_is), es_is) j rest runs =
        turn from again a h i m j first more es _ parse es_is
        (at_end again to m l j more rest l_is more_is
        (out_of greedy again from to m j _ is (stays (at to m) j rest (back to m l j rest l_is runs))))
    loop_in from to again a h is (suc n) i l es (m, first, more, parse, turns, es_is) j rest runs =
        turn from again a h i m j first more es _ parse es_is
        (into greedy again from to m j _ is (loop_in from to again a h is n m l more turns j rest runs))

    Loop-enters : Enters (Loop p.states greedy body) (Several (λ m. 1 ≤ m) R)
    Loop-enters from to used (again, a, h, is, e) i l es (n, some, turns) j rest runs = at_count n some turns
      where
        at_count : (n : ℕ) → 1 ≤ n → Turns R n i l es → Entered (at from i) j (writes_of es ++ written (at to l) rest)
        at_count zero some turns = absurd (omega arith)
        at_count (suc n) some turns = loop_in from to again a h is n i l es turns j rest runs

    OptionalLoop-enters : Enters (OptionalLoop p.states greedy body) (Several Any R)
    OptionalLoop-enters from to used (round, out, a, loop, is, goes, e) i l es (n, u, turns) j rest runs = at_count n turns
      where
        at_count : (n : ℕ) → Turns R n i l es → Entered (at from i) j (writes_of es ++ written (at to l) rest)
        at_count zero (l_is, es_is) =
            at_end from to i l j es rest l_is es_is
            (out_of greedy from round out i j _ is (over out to i j rest goes (back to i l j rest l_is runs)))
        at_count (suc n) turns =
            let x = over out to l j rest goes runs in
            renamed (at from i) j _ _ (ap (λ ws. writes_of es ++ ws) x.same)
            (into greedy from round out i j _ is (Loop-enters round out a loop i l es (suc n, omega arith, turns) j x.configurations x.runs))

    options_end : (n out mid to : ℕ) (b : List ℕ) → Options p.states n greedy out body mid to b → to ≡ out
    options_end zero out mid to b h = h.1
    options_end (suc n) out mid to b (round, next, c, d, is, h, more, e) = options_end n out next to d more

    Options-enters : (n out : ℕ) → Enters (Options p.states n greedy out body) (Several (λ m. m ≤ n) R)
    Options-enters zero out from to used (start, end, e) i l es (zero, le, (l_is, es_is)) j rest runs = grind (arith, common_steps, at_end, stays)
    Options-enters zero out from to used (start, end, e) i l es (suc m, le, turns) j rest runs = absurd (omega arith)
    Options-enters (suc n) out from to used (round, mid, a, b, is, h, more, e) i l es (zero, le, (l_is, es_is)) j rest runs =
        at_end from to i l j es rest l_is es_is
        (out_of greedy from round out i j _ is
        (subst (λ q. Entered (at q i) j (written (at to i) rest)) (options_end n out mid to b more) (stays (at to i) j rest (back to i l j rest l_is runs))))
    Options-enters (suc n) out from to used (round, mid, a, b, is, h, more, e) i l es (suc m, le, (k, first, others, parse, turns, es_is)) j rest runs =
        into greedy from round out i j _ is
        (turn round mid a h i k j first others es _ parse es_is
        (Options-enters n out mid to b more k l others (m, omega arith, turns) j rest runs))

    Bounded-enters : (n : ℕ) → Enters (Bounded p.states n greedy body) (Several (λ m. m ≤ n) R)
    Bounded-enters n from to used (out, a, h, goes, e) i l es parse j rest runs =
        let x = over out to l j rest goes runs in
        renamed (at from i) j _ _ (ap (λ ws. writes_of es ++ ws) x.same) (Options-enters n out from out a h i l es parse j x.configurations x.runs)

    once : Enters body (Several (λ m. m ≡ 1) R)
    once from to used h i l es (zero, one, turns) j rest runs = absurd (omega arith)
    once from to used h i l es (suc zero, one, (m, first, more, parse, (l_is, more_is), es_is)) j rest runs = grind (arith, common_steps)
    once from to used h i l es (suc (suc n), one, turns) j rest runs = absurd (omega arith)

    Copies-enters : (n : ℕ) (rest : Fragment) (P : ℕ → Type 0) → Enters rest (Several P R) →
        Enters (Copies p.states n body rest) (Several (λ m. (k : ℕ) × P k × (m ≡ n + k)) R)
    Copies-enters zero rest P enters = grind (arith, common_steps)
    Copies-enters (suc n) rest P enters =
        Enters-also (Behind p.states body (Copies p.states n body rest)) (Both R (Several (λ m. (k : ℕ) × P k × (m ≡ n + k)) R)) _
        (λ i l es h. split h.0 h.1 i l es h.2)
        (Behind-enters body (Copies p.states n body rest) R (Several (λ m. (k : ℕ) × P k × (m ≡ n + k)) R) inside (Copies-enters n rest P enters))
      where
        split : (m : ℕ) → ((k : ℕ) × P k × (m ≡ suc n + k)) → (i l : ℕ) (es : List Event) → Turns R m i l es →
            Both R (Several (λ m. (k : ℕ) × P k × (m ≡ n + k)) R) i l es
        split zero c i l es turns = absurd (omega (arith, c.2))
        split (suc m) c i l es (x, first, more, parse, turns, es_is) =
            (x, first, more, parse, (m, (c.0, c.1, omega (arith, c.2)), turns), es_is)

    CopiesUpTo-enters : (n more : ℕ) → Enters (CopiesUpTo p.states n more greedy body) (Several (λ m. (suc n ≤ m) × (m ≤ suc n + more)) R)
    CopiesUpTo-enters n zero =
        Enters-also (Copies p.states n body body) (Several (λ m. (k : ℕ) × (k ≡ 1) × (m ≡ n + k)) R) _
        (λ i l es h. let c = h.1 in (h.0, (1, refl, omega (arith, c.0, c.1)), h.2))
        (Copies-enters n body (λ m. m ≡ 1) once)
    CopiesUpTo-enters n (suc more) =
        Enters-also (Copies p.states (suc n) body (Bounded p.states (suc more) greedy body))
        (Several (λ m. (k : ℕ) × (k ≤ suc more) × (m ≡ suc n + k)) R) _
        (λ i l es h. let c = h.1 in (h.0, (h.0 - suc n, omega (arith, c.0, c.1), omega (arith, c.0, c.1)), h.2))
        (Copies-enters (suc n) (Bounded p.states (suc more) greedy body) (λ m. m ≤ suc more) (Bounded-enters (suc more)))

    Repeated-enters : (min : ℕ) (most : Option ℕ) (is_empty : Bool) → IsCount min most →
        Enters (Repeated p.states min most greedy is_empty body) (λ i l es. (n : ℕ) × (min ≤ n) × IsWithin most n × Turns R n i l es)
    Repeated-enters zero None true is_count =
        Enters-also _ (Several Any R) _ (λ i l es h. (h.0, tt, h.3)) OptionalLoop-enters
    Repeated-enters zero None false is_count =
        Enters-also _ (Several Any R) _ (λ i l es h. (h.0, tt, h.3)) Star-enters
    Repeated-enters (suc n) None is_empty is_count =
        Enters-also _ (Several (λ m. (k : ℕ) × (1 ≤ k) × (m ≡ n + k)) R) _
        (λ i l es h. let c = h.1 in (h.0, (h.0 - n, omega (arith, c), omega (arith, c)), h.3))
        (Copies-enters n (Loop p.states greedy body) (λ m. 1 ≤ m) Loop-enters)
    Repeated-enters zero (Some zero) is_empty is_count = grind (arith, common_steps, Enters-also, One-enters)
    Repeated-enters zero (Some (suc zero)) is_empty is_count =
        Enters-also _ (Several (λ m. m ≤ 1) R) _ (λ i l es h. (h.0, h.2, h.3)) (Bounded-enters 1)
    Repeated-enters zero (Some (suc (suc m))) is_empty is_count =
        Enters-also _ (Both Nothing (Several (λ k. k ≤ suc (suc m)) R)) _
        (λ i l es h. (i, [], es, (refl, refl), (h.0, h.2, h.3), refl))
        (Behind-enters (One p.states (λ to. program.goto to None)) (Bounded p.states (suc (suc m)) greedy body) Nothing (Several (λ k. k ≤ suc (suc m)) R)
        (One-enters (λ to. program.goto to None) Nothing Nothing-to) (Bounded-enters (suc (suc m))))
    Repeated-enters (suc n) (Some most) is_empty is_count = grind (arith, common_steps, Enters-also, CopiesUpTo-enters)

  group_trace : (k : ℕ) (name : Option (List ℕ)) (t : Tree) (i l : ℕ) (es : List Event) → Steps hay (group k name t) i l es →
      Both (Opens k) (Both (Steps hay t) (Closes k i)) i l es
  group_trace k name t i l es (inner, steps, es_is) =
      (i, opened k i ∷ [], inner ++ closed k i l ∷ [], (refl, refl), (l, inner, closed k i l ∷ [], steps, (refl, refl), refl), es_is)

  pub group-enters : (k : ℕ) (name : Option (List ℕ)) (t : Tree) → Enters (HasForm p.states t) (Steps hay t) →
      Enters (HasForm p.states (group k name t)) (Steps hay (group k name t))
  group-enters k name t enters from to used h i l es parse j rest runs =
      Behind-enters (One p.states (λ to. program.capture to (2 * k)))
      (Behind p.states (HasForm p.states t) (One p.states (λ to. program.capture to (2 * k + 1)))) (Opens k) (Both (Steps hay t) (Closes k i))
      (One-enters (λ to. program.capture to (2 * k)) (Opens k) (open_to k))
      (Behind-enters (HasForm p.states t) (One p.states (λ to. program.capture to (2 * k + 1))) (Steps hay t) (Closes k i) enters
      (One-enters (λ to. program.capture to (2 * k + 1)) (Closes k i) (close_to k i)))
      from to used h i l es (group_trace k name t i l es parse) j rest runs

  mutual
    -- Each traced parse of a tree makes a run through its part.
    pub HasForm-enters : (t : Tree) → IsReduced t → Enters (HasForm p.states t) (Steps hay t)
    HasForm-enters empty reduced = One-enters (λ to. program.goto to None) (Steps hay empty) Nothing-to
    HasForm-enters (char c) reduced = One-enters (λ to. program.char to c) (Steps hay (char c)) (char_to c)
    HasForm-enters (class rs) reduced = One-enters (class_state p.states rs) (Steps hay (class rs)) (class_to rs)
    HasForm-enters (look l) reduced = One-enters (λ to. program.goto to (Some l)) (Steps hay (look l)) (look_to l)
    HasForm-enters (repetition min most greedy t) reduced =
        Repeated-enters greedy (HasForm p.states t) (Steps hay t) (HasForm-enters t reduced.1) min most (is_nullable t) reduced.0
    HasForm-enters (group k name t) reduced = group-enters k name t (HasForm-enters t reduced.1)
    HasForm-enters (sequence ts) reduced = HasFormAll-enters ts reduced.1
    HasForm-enters (alternation ts) reduced = λ from to used h i l es parse j rest runs.
        let v = over h.0 to l j rest h.5 runs in
        let x = HasFormEach-enters ts reduced.1 h.1 h.0 h.2 h.4 i l es parse j v.configurations v.runs in
        renamed (at from i) j _ _ (x.2.same ∙ ap (λ ws. writes_of es ++ ws) v.same)
        (step_in from i j (program.splits h.1 false) (at x.0 i) x.2.configurations h.3 (Among-to h.1 i x.0 x.1) x.2.runs)

    HasFormAll-enters : (ts : Trees) → AllAreReduced ts → Enters (HasFormAll p.states ts) (StepsAll hay ts)
    HasFormAll-enters no_tree reduced = λ from to used h i l es parse j rest runs.
        at_end from to i l j es rest parse.0 parse.1
        (subst (λ q. Entered (at q i) j (written (at to i) rest)) (sym h.0) (stays (at to i) j rest (back to i l j rest parse.0 runs)))
    HasFormAll-enters (tree_and t ts) reduced =
        Behind-enters (HasForm p.states t) (HasFormAll p.states ts) (Steps hay t) (StepsAll hay ts)
        (HasForm-enters t reduced.0) (HasFormAll-enters ts reduced.1)

    HasFormEach-enters : (ts : Trees) → AllAreReduced ts → (rounds : List ℕ) (out : ℕ) (used : List ℕ) → HasFormEach p.states ts rounds out used →
        (i l : ℕ) (es : List Event) → StepsOne hay ts i l es → (j : ℕ) (rest : List Configuration) → RunsTo (at out l) rest j →
        (q : ℕ) × Among rounds q × Entered (at q i) j (writes_of es ++ written (at out l) rest)
    HasFormEach-enters no_tree reduced rounds out used h i l es parse j rest runs = absurd parse
    HasFormEach-enters (tree_and t ts) reduced [] out used h i l es parse j rest runs = absurd h
    HasFormEach-enters (tree_and t ts) reduced (x ∷ rounds) out used (a, b, one, more, e) i l es parse j rest runs =
        ⊎_elim
        (λ (here : Steps hay t i l es). (x, inl refl, HasForm-enters t reduced.0 x out a one i l es here j rest runs))
        (λ (later : StepsOne hay ts i l es).
        let r = HasFormEach-enters ts reduced.1 rounds out b more i l es later j rest runs in (r.0, inr r.1, r.2))
        parse
