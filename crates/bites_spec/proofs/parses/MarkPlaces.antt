-- The marks of a parse lie between its ends.
use Rattle.std.proofs.lemmas.Grind.{common_steps}
use Rattle.std.proofs.Common.{◌≡◌, ℕ, zero, suc, ◌≤◌, Bool, true, false, cond, List, [], ◌∷◌, ◌++◌, Option, Some, None, sym, subst, ◌⊎◌, inl, inr, ⊎_elim, arith}
use Rattle.std.specs.Prelude.{◌==◌}
use Rattle.std.specs.Option.{option_or}
use Rattle.bites_spec.specs.Tree.{Tree, Trees, empty, char, class, look, repetition, group, sequence, alternation, no_tree, tree_and}
use Rattle.bites_spec.specs.Match.{Mark, Span, span, Turns, Parse, ParseAll, ParseOne, last_mark, groups}

-- each mark begins at i or after, ends at j or before, and does not begin after its end
abbrev pub MarksLie : ℕ → ℕ → List Mark → Type 0
MarksLie i j [] = Unit {0}
MarksLie i j (m ∷ ms) = (i ≤ m.span.start) × (m.span.start ≤ m.span.end) × (m.span.end ≤ j) × MarksLie i j ms

MarksLie-wider : (i j k l : ℕ) (ms : List Mark) → k ≤ i → j ≤ l → MarksLie i j ms → MarksLie k l ms
MarksLie-wider i j k l [] a b h = tt
MarksLie-wider i j k l (m ∷ ms) a b h =
    let one = h.0 in let three = h.2 in (omega arith, h.1, omega arith, MarksLie-wider i j k l ms a b h.3)

MarksLie-append : (i j : ℕ) (ms ns : List Mark) → MarksLie i j ms → MarksLie i j ns → MarksLie i j (ms ++ ns)
MarksLie-append i j [] ns h k = k
MarksLie-append i j (m ∷ ms) ns h k = (h.0, h.1, h.2, MarksLie-append i j ms ns h.3 k)

-- the ends stand in order, and the marks lie between them
abbrev pub Lies : ℕ → ℕ → List Mark → Type 0
Lies i j ms = (i ≤ j) × MarksLie i j ms

none_lies : (i j : ℕ) (ms : List Mark) → j ≡ i → ms ≡ [] → Lies i j ms
none_lies i j ms is none = (omega arith, subst (MarksLie i j) (sym none) tt)

both_lie : (i l j : ℕ) (ms first rest : List Mark) → Lies i l first → Lies l j rest → ms ≡ first ++ rest → Lies i j ms
both_lie i l j ms first rest a b is = grind (arith, common_steps, MarksLie-append, MarksLie-wider)

turns_lie : (R : ℕ → ℕ → List Mark → Type 0) → ((i j : ℕ) (ms : List Mark) → R i j ms → Lies i j ms) →
    (n i j : ℕ) (ms : List Mark) → Turns R n i j ms → Lies i j ms
turns_lie R f zero i j ms h = none_lies i j ms h.0 h.1
turns_lie R f (suc n) i j ms (l, first, rest, one, more, e) = both_lie i l j ms first rest (f i l first one) (turns_lie R f n l j rest more) e

module _ (hay : List ℕ) where
  mutual
    pub parse_lies : (t : Tree) (i j : ℕ) (ms : List Mark) → Parse hay t i j ms → Lies i j ms
    parse_lies empty i j ms h = none_lies i j ms h.0 h.1
    parse_lies (char c) i j ms h = let e = h.0.2 in (omega arith, subst (MarksLie i j) (sym h.1) tt)
    parse_lies (class rs) i j ms h = let e = h.0.2 in (omega arith, subst (MarksLie i j) (sym h.1) tt)
    parse_lies (look l) i j ms h = none_lies i j ms h.1 h.2
    parse_lies (repetition min most greedy t) i j ms (n, least, within, turns) =
        turns_lie (Parse hay t) (λ a b ns one. parse_lies t a b ns one) n i j ms turns
    parse_lies (group k name t) i j ms (inner, h, e) = grind (arith, common_steps, MarksLie-append, (parse_lies t i j inner h))
    parse_lies (sequence ts) i j ms h = all_lie ts i j ms h
    parse_lies (alternation ts) i j ms h = one_lies ts i j ms h

    all_lie : (ts : Trees) (i j : ℕ) (ms : List Mark) → ParseAll hay ts i j ms → Lies i j ms
    all_lie no_tree i j ms h = none_lies i j ms h.0 h.1
    all_lie (tree_and t ts) i j ms (l, first, rest, one, more, e) =
        both_lie i l j ms first rest (parse_lies t i l first one) (all_lie ts l j rest more) e

    one_lies : (ts : Trees) (i j : ℕ) (ms : List Mark) → ParseOne hay ts i j ms → Lies i j ms
    one_lies no_tree i j ms h = absurd h
    one_lies (tree_and t ts) i j ms h = ⊎_elim (λ a. parse_lies t i j ms a) (λ b. one_lies ts i j ms b) h

pub or_cases : (a b : Option Span) (g : Span) → option_or a b ≡ Some g → (a ≡ Some g) ⊎ (b ≡ Some g)
or_cases None b g e = inr e
or_cases (Some x) b g e = inl e

own_lies : (b : Bool) (i j : ℕ) (s g : Span) → (i ≤ s.start) × (s.start ≤ s.end) × (s.end ≤ j) → cond b (Some s) None ≡ Some g →
    (i ≤ g.start) × (g.start ≤ g.end) × (g.end ≤ j)
own_lies true i j s g h e = grind arith
own_lies false i j s g h e = let never : None ≡ Some g = e in cc

last_lies : (i j : ℕ) (ms : List Mark) (k : ℕ) (g : Span) → MarksLie i j ms → last_mark ms k ≡ Some g →
    (i ≤ g.start) × (g.start ≤ g.end) × (g.end ≤ j)
last_lies i j [] k g h e = let never : None ≡ Some g = e in cc
last_lies i j (m ∷ ms) k g h e =
    ⊎_elim (λ later. last_lies i j ms k g h.3 later) (λ now. own_lies (m.group == k) i j m.span g (h.0, h.1, h.2) now)
    (or_cases (last_mark ms k) (cond (m.group == k) (Some m.span) None) g e)

-- each group of a parse lies between its ends
pub group_lies : (i j : ℕ) (ms : List Mark) (k : ℕ) (g : Span) → Lies i j ms → groups i j ms k ≡ Some g →
    (i ≤ g.start) × (g.start ≤ g.end) × (g.end ≤ j)
group_lies i j ms zero g h e = let le = h.0 in own_lies true i j (span i j) g (omega arith, le, omega arith) e
group_lies i j ms (suc k) g h e = last_lies i j ms (suc k) g h.1 e
