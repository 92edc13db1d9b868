-- Every traced parse of a plain tree is listed.
use Rattle.std.proofs.lemmas.Grind.{common_steps}
use Rattle.std.proofs.Common.{◌≡◌, ℕ, zero, suc, ◌+◌, ◌-◌, ◌<◌, ◌≤◌, Bool, true, false, not, cond, List, [], ◌∷◌, ◌++◌, map, length, Some, None, sym, ap, ap₂, subst, inl, inr, ⊎_elim, arith, lt-ltb}
use Rattle.std.proofs.lemmas.Bool.{and_parts, not-true}
use Rattle.std.specs.Prelude.{◌||◌, ◌==◌, is_some}
use Rattle.bites_spec.specs.Walks.{Among}
use Rattle.bites_spec.specs.Range.{in_ranges}
use Rattle.bites_spec.specs.Tree.{Tree, Trees, empty, char, class, look, repetition, group, sequence, alternation, no_tree, tree_and, is_nullable, is_plain, all_are_plain, IsReduced}
use Rattle.bites_spec.specs.Match.{Mark, Turns, Takes, Parse}
use Rattle.bites_spec.specs.Preference.{ParseTo, parses}
use Rattle.bites_spec.proofs.parses.EventLemmas.{Event, Steps, StepsAll, StepsOne, Steps-Parse, Parse-Steps}
use Rattle.bites_spec.proofs.programs.PartLemmas.{Traces}
use Rattle.bites_spec.proofs.programs.OrderLemmas.{TracedParse, traced, stay, prefix, behind, Every, up_to, after_turns, wrap, taken, turns, traced_parses, traced_parses_of_all, traced_parses_of_one}
use Rattle.bites_spec.proofs.programs.TracedParses.{traced_parses_are, parse_of, traced_parses-parses, advance, forward}
use Rattle.bites_spec.proofs.programs.SlotLemmas.{Among-left, Among-right}

pub Among-under : {A B : Type 0} (f : A → B) (xs : List A) (x : A) → Among xs x → Among (map f xs) (f x)
Among-under f [] x h = absurd h
Among-under f (y ∷ xs) x h = ⊎_elim (λ (e : y ≡ x). inl (ap f e)) (λ later. inr (Among-under f xs x later)) h

Among-behind : (ts : List TracedParse) (f : ℕ → List TracedParse) (t v : TracedParse) → Among ts t → Among (f t.end) v → Among (behind ts f) (prefix t.events v)
unfolding behind
Among-behind [] f t v h g = absurd h
Among-behind (u ∷ ts) f t v h g =
    ⊎_elim
    (λ (e : u ≡ t). Among-left (map (prefix u.events) (f u.end)) (behind ts f) (prefix t.events v)
    (subst (λ (x : TracedParse). Among (map (prefix x.events) (f x.end)) (prefix t.events v)) (sym e) (Among-under (prefix t.events) (f t.end) v g)))
    (λ later. Among-right (map (prefix u.events) (f u.end)) (behind ts f) (prefix t.events v) (Among-behind ts f t v later g)) h

-- each traced parse of R is listed
abbrev pub Lists : Traces → (ℕ → List TracedParse) → Type 0
Lists R body = (i l : ℕ) (es : List Event) → R i l es → Among (body i) (traced l es)

same_traced : (l k : ℕ) (a b : List Event) → l ≡ k → a ≡ b → traced l a ≡ traced k b
same_traced l k a b e f = ap₂ traced e f

module _ (R : Traces) (body : ℕ → List TracedParse) (lists : Lists R body) where
  one_behind : (i m l : ℕ) (first more es : List Event) (f : ℕ → List TracedParse) → R i m first → Among (f m) (traced l more) → es ≡ first ++ more →
      Among (behind (body i) f) (traced l es)
  one_behind i m l first more es f parse among e =
      subst (λ x. Among (behind (body i) f) (traced l x)) (sym e) (Among-behind (body i) f (traced m first) (traced l more) (lists i m first parse) among)

  Among-up_to : (greedy : Bool) (n m i l : ℕ) (es : List Event) → m ≤ n → Turns R m i l es → Among (up_to n greedy body i) (traced l es)
  unfolding up_to
  Among-up_to greedy zero zero i l es le (l_is, es_is) = inl (same_traced i l [] es (sym l_is) (sym es_is))
  Among-up_to greedy zero (suc m) i l es le h = absurd (omega arith)
  Among-up_to true (suc n) zero i l es le (l_is, es_is) =
      Among-right (behind (body i) (up_to n true body)) (stay i ∷ []) (traced l es) (inl (same_traced i l [] es (sym l_is) (sym es_is)))
  Among-up_to false (suc n) zero i l es le (l_is, es_is) = inl (same_traced i l [] es (sym l_is) (sym es_is))
  Among-up_to true (suc n) (suc m) i l es le (k, first, more, parse, rest, e) =
      Among-left (behind (body i) (up_to n true body)) (stay i ∷ []) (traced l es)
      (one_behind i k l first more es (up_to n true body) parse (Among-up_to true n m k l more (omega arith) rest) e)
  Among-up_to false (suc n) (suc m) i l es le (k, first, more, parse, rest, e) =
      inr (one_behind i k l first more es (up_to n false body) parse (Among-up_to false n m k l more (omega arith) rest) e)

  Among-after : (rest : ℕ → List TracedParse) (P : ℕ → Type 0) → ((k i l : ℕ) (es : List Event) → P k → Turns R k i l es → Among (rest i) (traced l es)) →
      (n m k i l : ℕ) (es : List Event) → P k → m ≡ n + k → Turns R m i l es → Among (after_turns n body rest i) (traced l es)
  unfolding after_turns
  Among-after rest P f zero m k i l es h e turns = grind arith
  Among-after rest P f (suc n) zero k i l es h e turns = absurd (omega (arith, e))
  Among-after rest P f (suc n) (suc m) k i l es h e (x, first, more, parse, turns, es_is) =
      one_behind i x l first more es (after_turns n body rest) parse (Among-after rest P f n m k x l more h (omega (arith, e)) turns) es_is

  -- where each turn goes forward, there are at most as many turns as bytes
  module _ (hay : List ℕ) (further : (i j : ℕ) (es : List Event) → R i j es → (i < j) × (j ≤ length hay)) where
    turns_room : (n i l : ℕ) (es : List Event) → Turns R (suc n) i l es → (i + suc n ≤ l) × (l ≤ length hay)
    turns_room zero i l es (m, first, more, parse, (l_is, more_is), e) =
        let lt = further i m first parse in let a = lt.0 in let b = lt.1 in (omega (arith, a, l_is), omega (arith, b, l_is))
    turns_room (suc n) i l es (m, first, more, parse, turns, e) = grind (arith, common_steps, (turns_room n m l more turns))

    room : (n i l : ℕ) (es : List Event) → Turns R n i l es → n ≤ length hay
    room zero i l es turns = omega arith
    room (suc n) i l es turns = let r = turns_room n i l es turns in let a = r.0 in let b = r.1 in omega (arith, a, b)

    Among-turns_none : (min : ℕ) (greedy : Bool) (n i l : ℕ) (es : List Event) → min ≤ n → Turns R n i l es →
        Among (turns hay min None greedy body i) (traced l es)
    Among-turns_none min greedy n i l es least turns =
        Among-after (up_to (length hay) greedy body) (λ k. Unit {0})
        (λ k i l es u turns. Among-up_to greedy (length hay) k i l es (room k i l es turns) turns) min n (n - min) i l es tt (omega arith) turns

  Among-turns_some : (hay : List ℕ) (min most : ℕ) (greedy : Bool) (n i l : ℕ) (es : List Event) → min ≤ n → n ≤ most → Turns R n i l es →
      Among (turns hay min (Some most) greedy body i) (traced l es)
  Among-turns_some hay min most greedy n i l es least within turns =
      Among-after (up_to (most - min) greedy body) (λ k. k ≤ most - min)
      (λ k i l es le turns. Among-up_to greedy (most - min) k i l es le turns) min n (n - min) i l es (omega arith) (omega arith) turns

module _ (hay : List ℕ) where
  Among-taken : (test : ℕ → Bool) (i l : ℕ) (es : List Event) → Takes hay test i l × (es ≡ []) → Among (taken hay test i) (traced l es)
  Among-taken test i l es ((some, passes, l_is), es_is) = grind (arith, common_steps, traced, lt-ltb)

  mutual
    unfolding traced_parses

    -- each traced parse of a plain tree is among the listed ones
    pub Among-traced : (t : Tree) → is_plain t ≡ true → Lists (Steps hay t) (traced_parses hay t)
    Among-traced empty plain i l es h = inl (same_traced i l [] es (sym h.0) (sym h.1))
    Among-traced (char c) plain i l es h = Among-taken (λ d. d == c) i l es h
    Among-traced (class rs) plain i l es h = Among-taken (in_ranges rs) i l es h
    Among-traced (look k) plain i l es h =
        subst (λ b. Among (cond b (stay i ∷ []) []) (traced l es)) (sym h.0) (inl (same_traced i l [] es (sym h.1) (sym h.2)))
    Among-traced (repetition min None greedy t) plain i l es (n, least, within, all) =
        let both = and_parts (is_some {T = ℕ} None || not (is_nullable t)) (is_plain t) plain in
        Among-turns_none (Steps hay t) (traced_parses hay t) (Among-traced t both.1) hay
        (λ i j es h. let lt = advance hay t (not-true (is_nullable t) both.0) i j es h in (lt, (forward hay t i j es h).1 lt))
        min greedy n i l es least all
    Among-traced (repetition min (Some most) greedy t) plain i l es (n, least, within, all) =
        let both = and_parts true (is_plain t) plain in
        Among-turns_some (Steps hay t) (traced_parses hay t) (Among-traced t both.1) hay min most greedy n i l es least within all
    Among-traced (group k name t) plain i l es (inner, h, e) =
        subst (λ x. Among (map (wrap k i) (traced_parses hay t i)) (traced l x)) (sym e)
        (Among-under (wrap k i) (traced_parses hay t i) (traced l inner) (Among-traced t plain i l inner h))
    Among-traced (sequence ts) plain i l es h = Among-traced_all ts plain i l es h
    Among-traced (alternation ts) plain i l es h = Among-traced_one ts plain i l es h

    Among-traced_all : (ts : Trees) → all_are_plain ts ≡ true → Lists (StepsAll hay ts) (traced_parses_of_all hay ts)
    Among-traced_all no_tree plain i l es h = inl (same_traced i l [] es (sym h.0) (sym h.1))
    Among-traced_all (tree_and t ts) plain i l es (m, first, more, parse, rest, e) =
        let both = and_parts (is_plain t) (all_are_plain ts) plain in
        one_behind (Steps hay t) (traced_parses hay t) (Among-traced t both.0) i m l first more es (traced_parses_of_all hay ts) parse (Among-traced_all ts both.1 m l more rest) e

    Among-traced_one : (ts : Trees) → all_are_plain ts ≡ true → Lists (StepsOne hay ts) (traced_parses_of_one hay ts)
    Among-traced_one no_tree plain i l es h = absurd h
    Among-traced_one (tree_and t ts) plain i l es h =
        let both = and_parts (is_plain t) (all_are_plain ts) plain in
        ⊎_elim (λ a. Among-left (traced_parses hay t i) (traced_parses_of_one hay ts i) (traced l es) (Among-traced t both.0 i l es a))
        (λ b. Among-right (traced_parses hay t i) (traced_parses_of_one hay ts i) (traced l es) (Among-traced_one ts both.1 i l es b)) h

  -- each parse of a plain tree is listed
  pub Parse-listed : (t : Tree) → is_plain t ≡ true → (i j : ℕ) (ms : List Mark) → Parse hay t i j ms → Among (parses hay t i) (record { end = j; marks = ms })
  Parse-listed t plain i j ms parse =
      let s = Parse-Steps hay t i j ms parse in
      subst (λ ws. Among ws (record { end = j; marks = ms })) (traced_parses-parses hay t i)
      (subst (λ x. Among (map (parse_of hay) (traced_parses hay t i)) (record { end = j; marks = x })) s.2
      (Among-under (parse_of hay) (traced_parses hay t i) (traced j s.0) (Among-traced t plain i j s.0 s.1)))

  among_listed : (t : Tree) (i : ℕ) (ts : List TracedParse) → Every (λ w. Steps hay t i w.end w.events) ts → (w : ParseTo) → Among (map (parse_of hay) ts) w →
      Parse hay t i w.end w.marks
  among_listed t i [] all w h = absurd h
  among_listed t i (x ∷ ts) all w h =
      ⊎_elim (λ (e : parse_of hay x ≡ w). subst (λ (y : ParseTo). Parse hay t i y.end y.marks) e (Steps-Parse hay t i x.end x.events all.0))
      (λ later. among_listed t i ts all.1 w later) h

  -- and each that is listed is a parse
  pub listed-Parse : (t : Tree) → IsReduced t → (i : ℕ) (w : ParseTo) → Among (parses hay t i) w → Parse hay t i w.end w.marks
  listed-Parse t reduced i w h =
      among_listed t i (traced_parses hay t i) (traced_parses_are hay t reduced i) w (subst (λ ws. Among ws w) (sym (traced_parses-parses hay t i)) h)
