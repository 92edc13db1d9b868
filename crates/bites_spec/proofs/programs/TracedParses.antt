-- The listed traced parses of a tree are among its traced parses, they go forward, and their marks are the listed parses.
use Rattle.std.proofs.lemmas.Grind.{common_steps}
use Rattle.std.proofs.Common.{◌≡◌, ℕ, zero, suc, ◌+◌, ◌-◌, ◌<◌, ◌≤◌, Bool, true, false, cond, List, [], ◌∷◌, ◌++◌, map, length, Option, Some, None, refl, sym, ap, ap₂, ◌∙◌, inl, inr, ⊎_elim, true≢false, arith, ◌⊎◌, ltb-true, ltb-false, eq-eqb}
use Rattle.std.specs.Prelude.{nat_lt, ◌&&◌, ◌==◌}
use Rattle.std.proofs.lemmas.Bool.{cases_Bool, and_parts, or_parts}
use Rattle.bites_spec.specs.Utf8.{piece, character}
use Rattle.bites_spec.specs.Look.{holds}
use Rattle.bites_spec.specs.Range.{in_ranges}
use Rattle.bites_spec.specs.Tree.{Tree, Trees, empty, char, class, look, repetition, group, sequence, alternation, no_tree, tree_and, is_nullable, all_are_nullable, some_is_nullable, IsReduced, AllAreReduced, IsCount}
use Rattle.bites_spec.specs.Match.{Mark, Turns, Takes, IsWithin}
use Rattle.bites_spec.specs.Preference.{ParseTo, here, joined, grouped, then_each, parses, parses_of_all, parses_of_one}
use Rattle.bites_spec.specs.Preference as preference
use Rattle.bites_spec.proofs.utf8.PieceLemmas.{piece_within, piece_none}
use Rattle.bites_spec.proofs.parses.EventLemmas.{Event, closed, marks_of, marks_of-append, Steps, StepsAll, StepsOne}
use Rattle.bites_spec.proofs.programs.PartLemmas.{Traces, Both, Several}
use Rattle.bites_spec.proofs.programs.OrderLemmas.{TracedParse, stay, prefix, behind, Every, up_to, after_turns, wrap, taken, turns, traced_parses, traced_parses_of_all, traced_parses_of_one, map-append, Every-also}

and_either : (a b : Bool) → (a && b) ≡ false → (a ≡ false) ⊎ (b ≡ false)
and_either true b e = inr e
and_either false b e = inl refl

pub Every-join : {A : Type 0} (P : A → Type 0) (xs ys : List A) → Every P xs → Every P ys → Every P (xs ++ ys)
Every-join P [] ys h g = g
Every-join P (x ∷ xs) ys h g = (h.0, Every-join P xs ys h.1 g)

pub Every-under : {A B : Type 0} (P : B → Type 0) (f : A → B) (xs : List A) → Every (λ t. P (f t)) xs → Every P (map f xs)
Every-under P f [] h = tt
Every-under P f (x ∷ xs) h = (h.0, Every-under P f xs h.1)

-- each traced parse of the list is one of R from i
abbrev pub Listed : Traces → ℕ → List TracedParse → Type 0
Listed R i ts = Every (λ w. R i w.end w.events) ts

Listed-behind : (R T : Traces) (i : ℕ) (ts : List TracedParse) (f : ℕ → List TracedParse) → Listed R i ts → ((m : ℕ) → Listed T m (f m)) → Listed (Both R T) i (behind ts f)
unfolding behind
Listed-behind R T i [] f h g = tt
Listed-behind R T i (t ∷ ts) f h g =
    Every-join (λ w. Both R T i w.end w.events) (map (prefix t.events) (f t.end)) (behind ts f)
    (Every-under (λ w. Both R T i w.end w.events) (prefix t.events) (f t.end)
    (Every-also (λ v. T t.end v.end v.events) (λ v. Both R T i v.end (t.events ++ v.events)) (f t.end)
    (λ v parse. (t.end, t.events, v.events, h.0, parse, refl)) (g t.end)))
    (Listed-behind R T i ts f h.1 g)

one_more : (R : Traces) (P Q : ℕ → Type 0) → ((m : ℕ) → P m → Q (suc m)) → (i l : ℕ) (es : List Event) → Both R (Several P R) i l es → Several Q R i l es
one_more R P Q f i l es (m, a, b, parse, (n, h, turns), e) = (suc n, f n h, (m, a, b, parse, turns, e))

Listed-up_to : (R : Traces) (body : ℕ → List TracedParse) → ((i : ℕ) → Listed R i (body i)) → (greedy : Bool) (n i : ℕ) → Listed (Several (λ m. m ≤ n) R) i (up_to n greedy body i)
unfolding up_to
Listed-up_to R body h greedy zero i = ((zero, omega arith, (refl, refl)), tt)
Listed-up_to R body h true (suc n) i =
    Every-join (λ w. Several (λ m. m ≤ suc n) R i w.end w.events) (behind (body i) (up_to n true body)) (stay i ∷ [])
    (Every-also (λ w. Both R (Several (λ m. m ≤ n) R) i w.end w.events) (λ w. Several (λ m. m ≤ suc n) R i w.end w.events)
    (behind (body i) (up_to n true body))
    (λ w. one_more R (λ m. m ≤ n) (λ m. m ≤ suc n) (λ m le. omega arith) i w.end w.events)
    (Listed-behind R (Several (λ m. m ≤ n) R) i (body i) (up_to n true body) (h i) (Listed-up_to R body h true n)))
    ((zero, omega arith, (refl, refl)), tt)
Listed-up_to R body h false (suc n) i = (
  (zero, omega arith, (refl, refl)),
  Every-also (λ w. Both R (Several (λ m. m ≤ n) R) i w.end w.events) (λ w. Several (λ m. m ≤ suc n) R i w.end w.events)
      (behind (body i) (up_to n false body))
      (λ w. one_more R (λ m. m ≤ n) (λ m. m ≤ suc n) (λ m le. omega arith) i w.end w.events)
      (Listed-behind R (Several (λ m. m ≤ n) R) i (body i) (up_to n false body) (h i) (Listed-up_to R body h false n)),
)

Listed-after : (R : Traces) (body rest : ℕ → List TracedParse) (P : ℕ → Type 0) → ((i : ℕ) → Listed R i (body i)) → ((i : ℕ) → Listed (Several P R) i (rest i)) →
    (n i : ℕ) → Listed (Several (λ m. (k : ℕ) × P k × (m ≡ n + k)) R) i (after_turns n body rest i)
unfolding after_turns
Listed-after R body rest P h g zero i = grind (arith, common_steps, Every-also)
Listed-after R body rest P h g (suc n) i =
    Every-also (λ w. Both R (Several (λ m. (k : ℕ) × P k × (m ≡ n + k)) R) i w.end w.events)
    (λ w. Several (λ m. (k : ℕ) × P k × (m ≡ suc n + k)) R i w.end w.events)
    (behind (body i) (after_turns n body rest))
    (λ w. one_more R (λ m. (k : ℕ) × P k × (m ≡ n + k)) (λ m. (k : ℕ) × P k × (m ≡ suc n + k)) (λ m c. (c.0, c.1, omega (arith, c.2))) i w.end w.events)
    (Listed-behind R (Several (λ m. (k : ℕ) × P k × (m ≡ n + k)) R) i (body i) (after_turns n body rest) (h i) (Listed-after R body rest P h g n))

module _ (hay : List ℕ) where
  Listed-taken : (test : ℕ → Bool) (i : ℕ) → Listed (λ i l es. Takes hay test i l × (es ≡ [])) i (taken hay test i)
  Listed-taken test i = grind (arith, common_steps, and_parts, ltb-true)

  Listed-if : (R : Traces) (i : ℕ) (b : Bool) → (b ≡ true → R i i []) → Listed R i (cond b (stay i ∷ []) [])
  Listed-if R i true h = (h refl, tt)
  Listed-if R i false h = tt

  Listed-turns : (R : Traces) (body : ℕ → List TracedParse) → ((i : ℕ) → Listed R i (body i)) → (min : ℕ) (most : Option ℕ) (greedy : Bool) → IsCount min most →
      (i : ℕ) → Listed (λ i l es. (n : ℕ) × (min ≤ n) × IsWithin most n × Turns R n i l es) i (turns hay min most greedy body i)
  Listed-turns R body h min None greedy is_count i =
      Every-also (λ w. Several (λ m. (k : ℕ) × (k ≤ length hay) × (m ≡ min + k)) R i w.end w.events) _ (after_turns min body (up_to (length hay) greedy body) i)
      (λ w x. let c = x.1 in (x.0, omega (arith, c.2), tt, x.2))
      (Listed-after R body (up_to (length hay) greedy body) (λ k. k ≤ length hay) h (Listed-up_to R body h greedy (length hay)) min i)
  Listed-turns R body h min (Some most) greedy is_count i =
      Every-also (λ w. Several (λ m. (k : ℕ) × (k ≤ most - min) × (m ≡ min + k)) R i w.end w.events) _ (after_turns min body (up_to (most - min) greedy body) i)
      (λ w x. let c = x.1 in (x.0, omega (arith, c.2), omega (arith, c.1, c.2, is_count.0), x.2))
      (Listed-after R body (up_to (most - min) greedy body) (λ k. k ≤ most - min) h (Listed-up_to R body h greedy (most - min)) min i)

  mutual
    unfolding traced_parses

    -- each listed traced parse is a traced parse of the tree
    pub traced_parses_are : (t : Tree) → IsReduced t → (i : ℕ) → Listed (Steps hay t) i (traced_parses hay t i)
    traced_parses_are empty reduced i = ((refl, refl), tt)
    traced_parses_are (char c) reduced i = Listed-taken (λ d. d == c) i
    traced_parses_are (class rs) reduced i = Listed-taken (in_ranges rs) i
    traced_parses_are (look l) reduced i = Listed-if (Steps hay (look l)) i (holds l hay i) (λ e. (e, refl, refl))
    traced_parses_are (repetition min most greedy t) reduced i = Listed-turns (Steps hay t) (traced_parses hay t) (traced_parses_are t reduced.1) min most greedy reduced.0 i
    traced_parses_are (group k name t) reduced i =
        Every-under (λ w. Steps hay (group k name t) i w.end w.events) (wrap k i) (traced_parses hay t i)
        (Every-also (λ w. Steps hay t i w.end w.events) _ (traced_parses hay t i) (λ w h. (w.events, h, refl)) (traced_parses_are t reduced.1 i))
    traced_parses_are (sequence ts) reduced i = traced_all_are ts reduced.1 i
    traced_parses_are (alternation ts) reduced i = traced_one_are ts reduced.1 i

    traced_all_are : (ts : Trees) → AllAreReduced ts → (i : ℕ) → Listed (StepsAll hay ts) i (traced_parses_of_all hay ts i)
    traced_all_are no_tree reduced i = ((refl, refl), tt)
    traced_all_are (tree_and t ts) reduced i =
        Listed-behind (Steps hay t) (StepsAll hay ts) i (traced_parses hay t i) (traced_parses_of_all hay ts) (traced_parses_are t reduced.0 i) (traced_all_are ts reduced.1)

    traced_one_are : (ts : Trees) → AllAreReduced ts → (i : ℕ) → Listed (StepsOne hay ts) i (traced_parses_of_one hay ts i)
    traced_one_are no_tree reduced i = tt
    traced_one_are (tree_and t ts) reduced i =
        Every-join (λ w. StepsOne hay (tree_and t ts) i w.end w.events) (traced_parses hay t i) (traced_parses_of_one hay ts i)
        (Every-also (λ w. Steps hay t i w.end w.events) _ (traced_parses hay t i) (λ w h. inl h) (traced_parses_are t reduced.0 i))
        (Every-also (λ w. StepsOne hay ts i w.end w.events) _ (traced_parses_of_one hay ts i) (λ w h. inr h) (traced_one_are ts reduced.1 i))

  -- it does not go back, and where it goes forward it ends within the haystack
  abbrev pub Forward : ℕ → ℕ → Type 0
  Forward i j = (i ≤ j) × (i < j → j ≤ length hay)

  Forward-both : (i m j : ℕ) → Forward i m → Forward m j → Forward i j
  Forward-both i m j h g = grind (arith, common_steps, ltb-true, ltb-false)

  stays : (i j : ℕ) → j ≡ i → Forward i j
  stays i j e = (omega arith, λ lt. absurd (omega arith))

  Takes-advance : (test : ℕ → Bool) (i j : ℕ) → Takes hay test i j → (i < j) × (j ≤ length hay)
  Takes-advance test i j (some, passes, e) = grind (arith, common_steps, ltb-true, piece_within, piece_none, cases_Bool)

  turns_forward : (R : Traces) → ((i j : ℕ) (es : List Event) → R i j es → Forward i j) → (n i j : ℕ) (es : List Event) → Turns R n i j es → Forward i j
  turns_forward R f zero i j es h = stays i j h.0
  turns_forward R f (suc n) i j es (m, a, b, one, more, e) = Forward-both i m j (f i m a one) (turns_forward R f n m j b more)

  mutual
    pub forward : (t : Tree) (i j : ℕ) (es : List Event) → Steps hay t i j es → Forward i j
    forward empty i j es h = stays i j h.0
    forward (char c) i j es h = let x = Takes-advance (λ d. d == c) i j h.0 in let lt = x.0 in let le = x.1 in (omega (arith, lt), λ u. le)
    forward (class rs) i j es h = let x = Takes-advance (in_ranges rs) i j h.0 in let lt = x.0 in let le = x.1 in (omega (arith, lt), λ u. le)
    forward (look l) i j es h = stays i j h.1
    forward (repetition min most greedy t) i j es (n, least, within, turns) = turns_forward (Steps hay t) (forward t) n i j es turns
    forward (group k name t) i j es (inner, h, e) = forward t i j inner h
    forward (sequence ts) i j es h = forward_all ts i j es h
    forward (alternation ts) i j es h = forward_one ts i j es h

    forward_all : (ts : Trees) (i j : ℕ) (es : List Event) → StepsAll hay ts i j es → Forward i j
    forward_all no_tree i j es h = stays i j h.0
    forward_all (tree_and t ts) i j es (m, a, b, one, more, e) = Forward-both i m j (forward t i m a one) (forward_all ts m j b more)

    forward_one : (ts : Trees) (i j : ℕ) (es : List Event) → StepsOne hay ts i j es → Forward i j
    forward_one no_tree i j es h = absurd h
    forward_one (tree_and t ts) i j es h = ⊎_elim (λ a. forward t i j es a) (λ b. forward_one ts i j es b) h

  first_turn : (R : Traces) → ((i j : ℕ) (es : List Event) → R i j es → Forward i j) → ((i j : ℕ) (es : List Event) → R i j es → i < j) →
      (n i j : ℕ) (es : List Event) → 1 ≤ n → Turns R n i j es → i < j
  first_turn R f g zero i j es le h = absurd (omega arith)
  first_turn R f g (suc n) i j es le (m, a, b, one, more, e) =
      let lt = g i m a one in let h = turns_forward R f n m j b more in let go = h.0 in omega (arith, lt, go)

  mutual
    -- a tree that is not nullable takes at least a byte
    pub advance : (t : Tree) → is_nullable t ≡ false → (i j : ℕ) (es : List Event) → Steps hay t i j es → i < j
    advance empty non i j es h = absurd (true≢false non)
    advance (char c) non i j es h = (Takes-advance (λ d. d == c) i j h.0).0
    advance (class rs) non i j es h = (Takes-advance (in_ranges rs) i j h.0).0
    advance (look l) non i j es h = absurd (true≢false non)
    advance (repetition min most greedy t) non i j es (n, least, within, all) =
        let both = or_parts (min == 0) (is_nullable t) non in
        first_turn (Steps hay t) (forward t) (advance t both.1) n i j es (some min n both.0 least) all
      where
        some : (min n : ℕ) → (min == 0) ≡ false → min ≤ n → 1 ≤ n
        some zero n e le = absurd (true≢false (sym (eq-eqb 0 0 refl) ∙ e))
        some (suc min) n e le = omega arith
    advance (group k name t) non i j es (inner, h, e) = advance t non i j inner h
    advance (sequence ts) non i j es h = advance_all ts non i j es h
    advance (alternation ts) non i j es h = advance_one ts non i j es h

    advance_all : (ts : Trees) → all_are_nullable ts ≡ false → (i j : ℕ) (es : List Event) → StepsAll hay ts i j es → i < j
    advance_all no_tree non i j es h = absurd (true≢false non)
    advance_all (tree_and t ts) non i j es (m, a, b, one, more, e) =
        ⊎_elim
        (λ (x : is_nullable t ≡ false). let lt = advance t x i m a one in let h = forward_all ts m j b more in let go = h.0 in after i m j lt go)
        (λ (x : all_are_nullable ts ≡ false). let lt = advance_all ts x m j b more in let h = forward t i m a one in let go = h.0 in before i m j go lt)
        (and_either (is_nullable t) (all_are_nullable ts) non)
      where
        after : (i m j : ℕ) → i < m → m ≤ j → i < j
        after i m j lt le = omega arith

        before : (i m j : ℕ) → i ≤ m → m < j → i < j
        before i m j le lt = omega arith

    advance_one : (ts : Trees) → some_is_nullable ts ≡ false → (i j : ℕ) (es : List Event) → StepsOne hay ts i j es → i < j
    advance_one no_tree non i j es h = absurd h
    advance_one (tree_and t ts) non i j es h =
        let both = or_parts (is_nullable t) (some_is_nullable ts) non in
        ⊎_elim (λ a. advance t both.0 i j es a) (λ b. advance_one ts both.1 i j es b) h

  -- the listed traced parses of a tree that is not nullable end further on
  pub traced_parses_advance : (t : Tree) → IsReduced t → is_nullable t ≡ false → (i : ℕ) → Every (λ w. (i < w.end) × (w.end ≤ length hay)) (traced_parses hay t i)
  traced_parses_advance t reduced non i = grind (arith, common_steps, Every-also, traced_parses, advance, forward, traced_parses_are)

  -- where a traced parse ends, and the marks of its events
  abbrev pub parse_of : TracedParse → ParseTo
  parse_of t = record { end = t.end; marks = marks_of t.events }

  same_parse : (l : ℕ) (a b : List Mark) → a ≡ b → ◌≡◌ {A = ParseTo} (record { end = l; marks = a }) (record { end = l; marks = b })
  same_parse l a b e = ap (λ (ms : List Mark). record { end = l; marks = ms }) e

  parse_of-prefix : (es : List Event) (l : ℕ) (ts : List TracedParse) → map parse_of (map (prefix es) ts) ≡ map (joined (record { end = l; marks = marks_of es })) (map parse_of ts)
  parse_of-prefix es l [] = refl
  parse_of-prefix es l (t ∷ ts) = ap₂ {C = List ParseTo} (λ (w : ParseTo) (ws : List ParseTo). w ∷ ws) (same_parse t.end _ _ (marks_of-append es t.events)) (parse_of-prefix es l ts)

  parse_of-behind : (ts : List TracedParse) (f : ℕ → List TracedParse) (g : ℕ → List ParseTo) → ((l : ℕ) → map parse_of (f l) ≡ g l) →
      map parse_of (behind ts f) ≡ then_each (map parse_of ts) g
  unfolding behind
  parse_of-behind [] f g h = refl
  parse_of-behind (t ∷ ts) f g h = grind (arith, common_steps, map-append, prefix, behind, parse_of-prefix, (parse_of-behind ts f g h))

  module _ (body : ℕ → List TracedParse) (all : ℕ → List ParseTo) (same : (i : ℕ) → map parse_of (body i) ≡ all i) where
    parse_of-up_to : (greedy : Bool) (n i : ℕ) → map parse_of (up_to n greedy body i) ≡ preference.up_to n greedy all i
    unfolding up_to
    parse_of-up_to greedy zero i = refl
    parse_of-up_to true (suc n) i =
        map-append parse_of (behind (body i) (up_to n true body)) (stay i ∷ [])
        ∙ ap (λ ws. ws ++ here i ∷ []) (parse_of-behind (body i) (up_to n true body) (preference.up_to n true all) (parse_of-up_to true n)
        ∙ ap (λ ws. then_each ws (preference.up_to n true all)) (same i))
    parse_of-up_to false (suc n) i =
        ap (λ ws. here i ∷ ws) (parse_of-behind (body i) (up_to n false body) (preference.up_to n false all) (parse_of-up_to false n)
        ∙ ap (λ ws. then_each ws (preference.up_to n false all)) (same i))

    parse_of-after : (rest : ℕ → List TracedParse) (more : ℕ → List ParseTo) → ((i : ℕ) → map parse_of (rest i) ≡ more i) → (n i : ℕ) →
        map parse_of (after_turns n body rest i) ≡ preference.after_turns n all more i
    unfolding after_turns
    parse_of-after rest more h zero i = h i
    parse_of-after rest more h (suc n) i =
        parse_of-behind (body i) (after_turns n body rest) (preference.after_turns n all more) (parse_of-after rest more h n)
        ∙ ap (λ ws. then_each ws (preference.after_turns n all more)) (same i)

    parse_of-turns : (min : ℕ) (most : Option ℕ) (greedy : Bool) (i : ℕ) → map parse_of (turns hay min most greedy body i) ≡ preference.turns hay min most greedy all i
    parse_of-turns min None greedy i = parse_of-after _ _ (parse_of-up_to greedy (length hay)) min i
    parse_of-turns min (Some most) greedy i = parse_of-after _ _ (parse_of-up_to greedy (most - min)) min i

  parse_of-if : (b : Bool) (l : ℕ) → map parse_of (cond b (stay l ∷ []) []) ≡ cond b (here l ∷ []) []
  parse_of-if true l = refl
  parse_of-if false l = refl

  parse_of-wrap : (k i : ℕ) (ts : List TracedParse) → map parse_of (map (wrap k i) ts) ≡ map (grouped k i) (map parse_of ts)
  parse_of-wrap k i [] = refl
  parse_of-wrap k i (t ∷ ts) =
      ap₂ {C = List ParseTo} (λ (w : ParseTo) (ws : List ParseTo). w ∷ ws) (same_parse t.end _ _ (marks_of-append t.events (closed k i t.end ∷ []))) (parse_of-wrap k i ts)

  mutual
    unfolding traced_parses parses

    -- The marks of the listed traced parses are the listed parses.
    pub traced_parses-parses : (t : Tree) (i : ℕ) → map parse_of (traced_parses hay t i) ≡ parses hay t i
    traced_parses-parses empty i = refl
    traced_parses-parses (char c) i = parse_of-if (nat_lt 0 (piece hay i).len && (character (piece hay i) == c)) (i + (piece hay i).len)
    traced_parses-parses (class rs) i = parse_of-if (nat_lt 0 (piece hay i).len && in_ranges rs (character (piece hay i))) (i + (piece hay i).len)
    traced_parses-parses (look l) i = parse_of-if (holds l hay i) i
    traced_parses-parses (repetition min most greedy t) i = parse_of-turns (traced_parses hay t) (parses hay t) (traced_parses-parses t) min most greedy i
    traced_parses-parses (group k name t) i = parse_of-wrap k i (traced_parses hay t i) ∙ ap (map (grouped k i)) (traced_parses-parses t i)
    traced_parses-parses (sequence ts) i = traced_all-parses ts i
    traced_parses-parses (alternation ts) i = traced_one-parses ts i

    traced_all-parses : (ts : Trees) (i : ℕ) → map parse_of (traced_parses_of_all hay ts i) ≡ parses_of_all hay ts i
    traced_all-parses no_tree i = refl
    traced_all-parses (tree_and t ts) i =
        parse_of-behind (traced_parses hay t i) (traced_parses_of_all hay ts) (parses_of_all hay ts) (traced_all-parses ts)
        ∙ ap (λ ws. then_each ws (parses_of_all hay ts)) (traced_parses-parses t i)

    traced_one-parses : (ts : Trees) (i : ℕ) → map parse_of (traced_parses_of_one hay ts i) ≡ parses_of_one hay ts i
    traced_one-parses no_tree i = refl
    traced_one-parses (tree_and t ts) i =
        map-append parse_of (traced_parses hay t i) (traced_parses_of_one hay ts i) ∙ ap₂ ◌++◌ (traced_parses-parses t i) (traced_one-parses ts i)
