-- All runs of a plain tree's program, in order, are the tree's listed traced parses, in order.
use Rattle.std.proofs.Common.{◌≡◌, ℕ, zero, suc, ◌+◌, ◌-◌, ◌*◌, ◌<◌, ◌≤◌, Bool, true, false, not, cond, List, [], ◌∷◌, ◌++◌, map, length, Option, Some, None, refl, sym, ap, ap₂, ◌∙◌, subst, true≢false, arith, append-nil}
use Rattle.std.specs.Prelude.{nat_lt, ◌&&◌, ◌||◌, ◌==◌, is_some}
use Rattle.std.proofs.lemmas.Bool.{and_parts, not-true}
use Rattle.bites_spec.specs.Utf8.{piece, character}
use Rattle.bites_spec.specs.Look.{holds, Look}
use Rattle.bites_spec.specs.Walks.{Among}
use Rattle.bites_spec.specs.Range.{in_ranges}
use Rattle.bites_spec.specs.Tree.{Tree, Trees, empty, char, class, look, repetition, group, sequence, alternation, no_tree, tree_and, is_nullable, is_plain, all_are_plain, IsReduced, AllAreReduced, IsCount}
use Rattle.bites_spec.specs.Program.{State, Program, Configuration, at, state_at, edges, is_match}
use Rattle.bites_spec.specs.Program as program
use Rattle.bites_spec.specs.Run.{Runs, write_of}
use Rattle.bites_spec.specs.Built.{Fragment, One, Behind, Copies, Loop, Star, Bounded, CopiesUpTo, Repeated, class_state, HasForm, HasFormAll, HasFormEach, Built}
use Rattle.bites_spec.proofs.parses.EventLemmas.{Event, opened, closed, writes_of}
use Rattle.bites_spec.proofs.programs.OrderLemmas.{TracedParse, traced, stay, Tour, tour_of, prefix, behind, onward, Every, up_to, after_turns, wrap, turns, traced_parses, traced_parses_of_all, traced_parses_of_one, nothing_before, onward-append, runs_within, AreRuns, EachAre, all_before, AreRuns-step, same_runs, Does, One-does, Behind-does, over, Advances, Star-does, Loop-does, Bounded-does, Copies-does, Every-append, Every-also}
use Rattle.bites_spec.proofs.programs.TracedParses.{traced_parses_advance}

same_lists : (v w : ℕ → List TracedParse) → ((i : ℕ) → v i ≡ w i) → v ≡ w
same_lists v w h = λ x. λ i. h i x

nothing_prefix : (ts : List TracedParse) → map (prefix []) ts ≡ ts
nothing_prefix [] = refl
nothing_prefix (t ∷ ts) = ap (λ us. t ∷ us) (nothing_prefix ts)

behind-stay : (i : ℕ) (f : ℕ → List TracedParse) → behind (stay i ∷ []) f ≡ f i
unfolding behind
behind-stay i f = append-nil (map (prefix []) (f i)) ∙ nothing_prefix (f i)

behind_one : (i : ℕ) (es : List Event) (f : ℕ → List TracedParse) → behind (traced i es ∷ []) f ≡ map (prefix es) (f i)
unfolding behind
behind_one i es f = append-nil (map (prefix es) (f i))

behind_stays : (ts : List TracedParse) → behind ts (λ l. stay l ∷ []) ≡ ts
unfolding behind
behind_stays [] = refl
behind_stays (t ∷ ts) = ap₂ {C = List TracedParse} (λ (es : List Event) (us : List TracedParse). traced t.end es ∷ us) (append-nil t.events) (behind_stays ts)

after_turns-suc : (w u : ℕ → List TracedParse) (n i : ℕ) → after_turns n w (λ i. behind (w i) u) i ≡ after_turns (suc n) w u i
unfolding after_turns
after_turns-suc w u zero i = refl
after_turns-suc w u (suc n) i = ap (behind (w i)) (same_lists (after_turns n w (λ i. behind (w i) u)) (after_turns (suc n) w u) (after_turns-suc w u n))

wrapped : (k i : ℕ) (ts : List TracedParse) →
    map (prefix (opened k i ∷ [])) (behind ts (λ l. traced l (closed k i l ∷ []) ∷ [])) ≡ map (wrap k i) ts
unfolding behind
wrapped k i [] = refl
wrapped k i (t ∷ ts) = ap (λ us. wrap k i t ∷ us) (wrapped k i ts)

module _ (p : Program) (hay : List ℕ) where
  Does-same : (part : Fragment) (v w : ℕ → List TracedParse) → ((i : ℕ) → v i ≡ w i) → Does p hay part v → Does p hay part w
  Does-same part v w h does = subst (λ u. Does p hay part u) (same_lists v w h) does

  goto_does : Does p hay (One p.states (λ to. program.goto to None)) (λ i. stay i ∷ [])
  goto_does = One-does p hay (λ to. program.goto to None) (λ i. true) (λ i. i) (λ i. []) (λ to. refl) (λ to i. refl) (λ to i. refl)

  after_turns-zero : (w u : ℕ → List TracedParse) (i : ℕ) → u i ≡ after_turns zero w u i
  unfolding after_turns
  after_turns-zero w u i = refl

  up_to-zero : (greedy : Bool) (w : ℕ → List TracedParse) (i : ℕ) → stay i ∷ [] ≡ up_to 0 greedy w i
  unfolding up_to
  up_to-zero greedy w i = refl

  minus_zero : (n : ℕ) → n ≡ n - 0
  minus_zero n = omega arith

  module _ (greedy : Bool) (body : Fragment) (w : ℕ → List TracedParse) (does : Does p hay body w) where
    CopiesUpTo-does : (n more : ℕ) → Does p hay (CopiesUpTo p.states n more greedy body) (after_turns (suc n) w (up_to more greedy w))
    CopiesUpTo-does n zero =
        Does-same (Copies p.states n body body) _ (after_turns (suc n) w (up_to 0 greedy w)) (after_turns-suc w (up_to 0 greedy w) n)
        (Copies-does p hay greedy body w does n body (λ i. behind (w i) (up_to 0 greedy w))
        (Does-same body w (λ i. behind (w i) (up_to 0 greedy w))
        (λ i. sym (ap (behind (w i)) (same_lists (up_to 0 greedy w) (λ l. stay l ∷ []) (λ l. sym (up_to-zero greedy w l))) ∙ behind_stays (w i))) does))
    CopiesUpTo-does n (suc more) =
        Copies-does p hay greedy body w does (suc n) (Bounded p.states (suc more) greedy body) (up_to (suc more) greedy w) (Bounded-does p hay greedy body w does (suc more))

    to_bound : (n : ℕ) (i : ℕ) → up_to n greedy w i ≡ turns hay 0 (Some n) greedy w i
    to_bound n i = ap (λ m. up_to m greedy w i) (minus_zero n) ∙ after_turns-zero w (up_to (n - 0) greedy w) i

    Repeated-does : (min : ℕ) (most : Option ℕ) (is_empty : Bool) → IsCount min most → (is_some most || not is_empty) ≡ true →
        (is_empty ≡ false → Advances p hay w) → Does p hay (Repeated p.states min most greedy is_empty body) (turns hay min most greedy w)
    Repeated-does zero None true is_count plain adv = absurd (true≢false (sym plain))
    Repeated-does zero None false is_count plain adv =
        Does-same (Star p.states greedy body) (up_to (length hay) greedy w) _ (after_turns-zero w (up_to (length hay) greedy w))
        (Star-does p hay greedy body w does (adv refl))
    Repeated-does (suc n) None is_empty is_count plain adv =
        Does-same (Copies p.states n body (Loop p.states greedy body)) _ _ (after_turns-suc w (up_to (length hay) greedy w) n)
        (Copies-does p hay greedy body w does n (Loop p.states greedy body) (λ i. behind (w i) (up_to (length hay) greedy w))
        (Loop-does p hay greedy body w does (adv (not-true is_empty plain))))
    Repeated-does zero (Some zero) is_empty is_count plain adv =
        Does-same (One p.states (λ to. program.goto to None)) (λ i. stay i ∷ []) _ (λ i. up_to-zero greedy w i ∙ to_bound 0 i) goto_does
    Repeated-does zero (Some (suc zero)) is_empty is_count plain adv =
        Does-same (Bounded p.states 1 greedy body) (up_to 1 greedy w) _ (to_bound 1) (Bounded-does p hay greedy body w does 1)
    Repeated-does zero (Some (suc (suc m))) is_empty is_count plain adv =
        Does-same (Behind p.states (One p.states (λ to. program.goto to None)) (Bounded p.states (suc (suc m)) greedy body)) _ _
        (λ i. behind-stay i (up_to (suc (suc m)) greedy w) ∙ to_bound (suc (suc m)) i)
        (Behind-does p hay (One p.states (λ to. program.goto to None)) (Bounded p.states (suc (suc m)) greedy body) (λ i. stay i ∷ []) (up_to (suc (suc m)) greedy w)
        goto_does (Bounded-does p hay greedy body w does (suc (suc m))))
    Repeated-does (suc n) (Some most) is_empty is_count plain adv = CopiesUpTo-does n (most - suc n)

  looks : (l : Look) (to i : ℕ) → edges hay (program.goto to (Some l)) i ≡ cond (holds l hay i) (at to i ∷ []) []
  looks l to i = refl

  class_edges : (rs : List (ℕ × ℕ)) (to i : ℕ) →
      edges hay (class_state p.states rs to) i ≡ cond (nat_lt 0 (piece hay i).len && in_ranges rs (character (piece hay i))) (at to (i + (piece hay i).len) ∷ []) []
  class_edges [] to i = grind arith
  class_edges (r ∷ rs) to i = refl

  class_no_match : (rs : List (ℕ × ℕ)) (to : ℕ) → is_match (class_state p.states rs to) ≡ false
  class_no_match [] to = refl
  class_no_match (r ∷ rs) to = refl

  class_no_write : (rs : List (ℕ × ℕ)) (to i : ℕ) → write_of (class_state p.states rs to) i ≡ []
  class_no_write [] to i = refl
  class_no_write (r ∷ rs) to i = refl

  pub group-does : (k : ℕ) (name : Option (List ℕ)) (t : Tree) (w : ℕ → List TracedParse) → Does p hay (HasForm p.states t) w →
      Does p hay (HasForm p.states (group k name t)) (λ i. map (wrap k i) (w i))
  group-does k name t w does from to used h i run each =
      let inside = λ (b : ℕ). Behind-does p hay (HasForm p.states t) (One p.states (λ to. program.capture to (2 * k + 1))) w (λ l. traced l (closed k b l ∷ []) ∷ []) does
      (One-does p hay (λ to. program.capture to (2 * k + 1)) (λ i. true) (λ i. i) (λ l. closed k b l ∷ []) (λ to. refl) (λ to i. refl) (λ to i. refl)) in
      let all = Behind-does p hay (One p.states (λ to. program.capture to (2 * k)))
      (Behind p.states (HasForm p.states t) (One p.states (λ to. program.capture to (2 * k + 1))))
      (λ i. traced i (opened k i ∷ []) ∷ []) (λ l. behind (w l) (λ l. traced l (closed k i l ∷ []) ∷ []))
      (One-does p hay (λ to. program.capture to (2 * k)) (λ i. true) (λ i. i) (λ i. opened k i ∷ []) (λ to. refl) (λ to i. refl) (λ to i. refl)) (inside i) in
      let same : behind (traced i (opened k i ∷ []) ∷ []) (λ l. behind (w l) (λ l. traced l (closed k i l ∷ []) ∷ [])) ≡ map (wrap k i) (w i) =
      behind_one i (opened k i ∷ []) (λ l. behind (w l) (λ l. traced l (closed k i l ∷ []) ∷ [])) ∙ wrapped k i (w i) in
      subst (λ (ts : List TracedParse). AreRuns p hay (at from i) (onward ts run)) same
      (all from to used h i run (subst (λ (ts : List TracedParse). Every (λ t. AreRuns p hay (at to t.end) (run t.end)) ts) (sym same) each))

  -- the runs from each of several configurations, and all of them in one list
  record Branches (ts : List Configuration) (all : List Tour) : Type 0 where
    each : List (List Tour)
    are : EachAre p hay ts each
    same : all_before p hay [] each ≡ all

  mutual
    unfolding traced_parses onward

    -- The runs through a part of a plain tree's program are the listed traced parses of the tree.
    pub HasForm-does : (t : Tree) → IsReduced t → is_plain t ≡ true → Does p hay (HasForm p.states t) (traced_parses hay t)
    HasForm-does empty reduced plain = goto_does
    HasForm-does (char c) reduced plain =
        One-does p hay (λ to. program.char to c) (λ i. nat_lt 0 (piece hay i).len && (character (piece hay i) == c)) (λ i. i + (piece hay i).len) (λ i. [])
        (λ to. refl) (λ to i. refl) (λ to i. refl)
    HasForm-does (class rs) reduced plain =
        One-does p hay (class_state p.states rs) (λ i. nat_lt 0 (piece hay i).len && in_ranges rs (character (piece hay i))) (λ i. i + (piece hay i).len) (λ i. [])
        (class_no_match rs) (class_edges rs) (class_no_write rs)
    HasForm-does (look l) reduced plain =
        One-does p hay (λ to. program.goto to (Some l)) (λ i. holds l hay i) (λ i. i) (λ i. []) (λ to. refl) (looks l) (λ to i. refl)
    HasForm-does (repetition min most greedy t) reduced plain =
        let both = and_parts (is_some most || not (is_nullable t)) (is_plain t) plain in
        Repeated-does greedy (HasForm p.states t) (traced_parses hay t) (HasForm-does t reduced.1 both.1) min most (is_nullable t) reduced.0 both.0
        (λ e i. traced_parses_advance hay t reduced.1 e i)
    HasForm-does (group k name t) reduced plain = group-does k name t (traced_parses hay t) (HasForm-does t reduced.1 plain)
    HasForm-does (sequence ts) reduced plain = HasFormAll-does ts reduced.1 plain
    HasForm-does (alternation ts) reduced plain = λ from to used h i k each.
        let b = HasFormEach-does ts reduced.1 plain h.1 h.0 h.2 h.4 i k
        (Every-also _ _ (traced_parses_of_one hay ts i) (λ t ready. over p hay h.0 to t.end (k t.end) h.5 ready) each) in
        same_runs p hay (at from i) _ _ b.same (AreRuns-step p hay (at from i) (program.splits h.1 false) b.each h.3 refl b.are)

    HasFormAll-does : (ts : Trees) → AllAreReduced ts → all_are_plain ts ≡ true → Does p hay (HasFormAll p.states ts) (traced_parses_of_all hay ts)
    HasFormAll-does no_tree reduced plain = λ from to used h i k each.
        same_runs p hay (at from i) _ _ (sym (append-nil _ ∙ nothing_before (k i)))
        (subst (λ q. AreRuns p hay (at q i) (k i)) (sym h.0) each.0)
    HasFormAll-does (tree_and t ts) reduced plain =
        let both = and_parts (is_plain t) (all_are_plain ts) plain in
        Behind-does p hay (HasForm p.states t) (HasFormAll p.states ts) (traced_parses hay t) (traced_parses_of_all hay ts)
        (HasForm-does t reduced.0 both.0) (HasFormAll-does ts reduced.1 both.1)

    HasFormEach-does : (ts : Trees) → AllAreReduced ts → all_are_plain ts ≡ true → (rounds : List ℕ) (out : ℕ) (used : List ℕ) →
        HasFormEach p.states ts rounds out used → (i : ℕ) (k : ℕ → List Tour) →
        Every (λ t. AreRuns p hay (at out t.end) (k t.end)) (traced_parses_of_one hay ts i) →
        Branches (map (λ q. at q i) rounds) (onward (traced_parses_of_one hay ts i) k)
    HasFormEach-does no_tree reduced plain [] out used h i k each = record { each = []; are = tt; same = refl }
    HasFormEach-does no_tree reduced plain (q ∷ rounds) out used h i k each = absurd h
    HasFormEach-does (tree_and t ts) reduced plain [] out used h i k each = absurd h
    HasFormEach-does (tree_and t ts) reduced plain (q ∷ rounds) out used (a, b, one, more, e) i k each =
        let both = and_parts (is_plain t) (all_are_plain ts) plain in
        let parts = Every-append (λ t. AreRuns p hay (at out t.end) (k t.end)) (traced_parses hay t i) (traced_parses_of_one hay ts i) each in
        let first = HasForm-does t reduced.0 both.0 q out a one i k parts.0 in
        let rest = HasFormEach-does ts reduced.1 both.1 rounds out b more i k parts.1 in
        record {
          each = onward (traced_parses hay t i) k ∷ rest.each;
          are = (first, rest.are);
          same = ap₂ ◌++◌ (nothing_before (onward (traced_parses hay t i) k)) rest.same ∙ sym (onward-append (traced_parses hay t i) (traced_parses_of_one hay ts i) k);
        }

  -- the match has one run, the empty one
  match_runs_are : (q i : ℕ) → state_at p.states q ≡ program.match → (n : ℕ) → 1 ≤ n → runs_within p hay n (at q i) ≡ record { end = i; writes = [] } ∷ []
  unfolding runs_within
  match_runs_are q i is zero le = absurd (omega arith)
  match_runs_are q i is (suc n) le = rw is refl

  match_runs_short : (q i : ℕ) → state_at p.states q ≡ program.match → (r : List Configuration) (j : ℕ) → Runs p hay (at q i) r j → length r < 1
  match_runs_short q i is [] j runs = omega arith
  match_runs_short q i is (t ∷ r) j runs = absurd (subst (λ (st : State). Among (edges hay st i) t) is runs.0)

  match_runs : (q i : ℕ) → state_at p.states q ≡ program.match → AreRuns p hay (at q i) (record { end = i; writes = [] } ∷ [])
  match_runs q i is = record { bound = 1; are = match_runs_are q i is; short = match_runs_short q i is }

  onward_ended : (ts : List TracedParse) → onward ts (λ l. record { end = l; writes = [] } ∷ []) ≡ map tour_of ts
  unfolding onward
  onward_ended [] = refl
  onward_ended (t ∷ ts) =
      ap₂ {C = List Tour} (λ (ws : List (ℕ × ℕ)) (us : List Tour). record { end = t.end; writes = ws } ∷ us) (append-nil (writes_of t.events)) (onward_ended ts)

  every : {A : Type 0} (P : A → Type 0) (ts : List A) → ((t : A) → P t) → Every P ts
  every P [] f = tt
  every P (t ∷ ts) f = (f t, every P ts f)

  -- All runs of a plain tree's program from a place, in order, are its listed traced parses, in order; their length is bounded.
  pub all_runs : (t : Tree) → IsReduced t → is_plain t ≡ true → (built : Built t p) → (i : ℕ) →
      AreRuns p hay (at p.start i) (map tour_of (map (wrap 0 i) (traced_parses hay t i)))
  all_runs t reduced plain built i =
      same_runs p hay (at p.start i) _ _ (onward_ended (map (wrap 0 i) (traced_parses hay t i)))
      (group-does 0 None t (traced_parses hay t) (HasForm-does t reduced plain) p.start built.last built.used built.form i (λ l. record { end = l; writes = [] } ∷ [])
      (every (λ t. AreRuns p hay (at built.last t.end) (record { end = t.end; writes = [] } ∷ [])) (map (wrap 0 i) (traced_parses hay t i)) (λ t. match_runs built.last t.end built.ends)))
