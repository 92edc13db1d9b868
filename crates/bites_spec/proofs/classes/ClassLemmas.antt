-- Each set has a list of canonical ranges, which depends on its scalar values alone.
use Rattle.std.proofs.lemmas.Grind.{common_steps}
use Rattle.std.proofs.Common.{◌≡◌, ℕ, zero, suc, ◌+◌, ◌<◌, ◌≤◌, inl, inr, Bool, true, false, ◌&&◌, ◌||◌, List, [], ◌∷◌, ◌++◌, refl, sym, ap, ◌∙◌, arith, eq-eqb, ne_eqb, le-leb, true≢false}
use Rattle.std.proofs.lemmas.Bool.{lt-leb, cases_eq, cases_order, and_parts, cases_Bool}
use Rattle.std.proofs.lemmas.List.Folds.{list_any-append}
use Rattle.bites_spec.specs.Range.{Range, in_range, in_ranges}
use Rattle.bites_spec.specs.Class.{Set, is_scalar, following, IsRange, AreCanonical, Lists}
use Rattle.bites_spec.specs.RangesOf.{with_front, ranges_from, ranges_of, RangesOfList}
use Rattle.bites_spec.specs.GrammarLaws.{ListsAll}
use Rattle.bites_spec.proofs.classes.RangeLemmas.{is_range, none_below, scalar_within, following_within, in_first, lists_once}
use Rattle.std.proofs.Math.Bool.{or-false}

-- the first range, if there is one, begins no lower than the number
abbrev pub StartsFrom : ℕ → List Range → Type 0
StartsFrom c [] = Unit {0}
StartsFrom c (r ∷ ranges) = c ≤ r.0

-- the first range may begin at any scalar value up to its end
pub with_start : (c : ℕ) (r : Range) (ranges : List Range) → is_scalar c ≡ true → c ≤ r.1 → AreCanonical (r ∷ ranges) → AreCanonical ((c, r.1) ∷ ranges)
with_start c r [] scalar low g = (scalar, g.1, low)
with_start c r (s ∷ ranges) scalar low g = ((scalar, g.0.1, low), g.1, g.2)

single_range : (c : ℕ) → is_scalar c ≡ true → IsRange (c, c)
single_range c scalar = (scalar, scalar, omega arith)

with_front_canonical : (c : ℕ) (ranges : List Range) → is_scalar c ≡ true → AreCanonical ranges → StartsFrom (suc c) ranges → AreCanonical (with_front c ranges)
with_front_canonical c [] scalar g above = single_range c scalar
with_front_canonical c (r ∷ ranges) scalar g above = grind (arith, common_steps, is_range, cases_eq, eq-eqb, with_start, following_within, scalar_within, ne_eqb)

with_front_starts : (c : ℕ) (ranges : List Range) → StartsFrom c (with_front c ranges)
with_front_starts c [] = omega arith
with_front_starts c (r ∷ ranges) = grind (arith, common_steps, cases_eq, eq-eqb)

in_single : (c : ℕ) → in_range (c, c) c ≡ true
in_single c = rw (le-leb c c (omega arith)) refl

at_front : (c : ℕ) (ranges : List Range) → AreCanonical ranges → StartsFrom (suc c) ranges → in_ranges (with_front c ranges) c ≡ true
at_front c [] g above = rw (in_single c) refl
at_front c (r ∷ ranges) g above = grind (arith, common_steps, cases_eq, eq-eqb, in_first, is_range)

not_in_single : (c d : ℕ) → c < d → in_range (c, c) d ≡ false
not_in_single c d low = rw (le-leb c d (omega arith), lt-leb d c low) refl

behind_front : (c : ℕ) (ranges : List Range) → is_scalar c ≡ true → (d : ℕ) → is_scalar d ≡ true → c < d → in_ranges (with_front c ranges) d ≡ in_ranges ranges d
behind_front c [] scalar d is_scalar low = rw (not_in_single c d low) refl
behind_front c (r ∷ ranges) scalar d is_scalar low = grind (arith, common_steps, cases_eq, following_within, scalar_within, eq-eqb, le-leb, ne_eqb)

-- no character below the first range is in the list
pub none_before : (n c : ℕ) (ranges : List Range) → AreCanonical ranges → StartsFrom n ranges → c < n → in_ranges ranges c ≡ false
none_before n c [] g from low = refl
none_before n c (r ∷ ranges) g from low = none_below r ranges g c (omega (arith, from, low))

-- ranges that begin no lower than a number begin no lower than a smaller one
pub starts_lower : (m n : ℕ) (ranges : List Range) → m ≤ n → StartsFrom n ranges → StartsFrom m ranges
starts_lower m n [] low from = tt
starts_lower m n (r ∷ ranges) low from = omega (arith, low, from)

-- a range that does not touch the ranges after it can stand before them
pub put_before : (r : Range) (n : ℕ) (ranges : List Range) → IsRange r → following r.1 < n → AreCanonical ranges → StartsFrom n ranges → AreCanonical (r ∷ ranges)
put_before r n [] is gap g from = is
put_before r n (s ∷ ranges) is gap g from = (is, omega (arith, gap, from), g)

-- the ranges after the first begin above the character that follows the first
pub starts_behind : (r : Range) (ranges : List Range) → AreCanonical (r ∷ ranges) → StartsFrom (following r.1) ranges
starts_behind r [] g = tt
starts_behind r (s ∷ ranges) g = omega (arith, g.1)

record ListsFrom (set : Set) (n c : ℕ) (ranges : List Range) : Type 0 where
  canonical : AreCanonical ranges
  starts : StartsFrom c ranges
  same : (d : ℕ) → is_scalar d ≡ true → c ≤ d → d < n + c → in_ranges ranges d ≡ set d

with_character : (set : Set) (n c : ℕ) (ranges : List Range) → is_scalar c ≡ true → set c ≡ true → ListsFrom set n (suc c) ranges → ListsFrom set (suc n) c (with_front c ranges)
with_character set n c ranges scalar is_in l = record {
  canonical = with_front_canonical c ranges scalar l.canonical l.starts;
  starts = with_front_starts c ranges;
  same = λ d of_d low high. elim (cases_order c d) [
    | inl e ↦ rw (← e) (at_front c ranges l.canonical l.starts ∙ sym is_in)
    | inr (inl less) ↦ behind_front c ranges scalar d of_d less ∙ l.same d of_d (omega (arith, less)) (omega (arith, high))
    | inr (inr more) ↦ absurd (omega (arith, low, more))
  ];
}

right_is_false : (a b : Bool) → a ≡ true → (a && b) ≡ false → b ≡ false
right_is_false true b e out = out
right_is_false false b e out = absurd (true≢false (sym e))

without_character : (set : Set) (n c : ℕ) (ranges : List Range) → (is_scalar c && set c) ≡ false → ListsFrom set n (suc c) ranges → ListsFrom set (suc n) c ranges
without_character set n c ranges out l = record {
  canonical = l.canonical;
  starts = starts_lower c (suc c) ranges (omega arith) l.starts;
  same = λ d of_d low high. elim (cases_order c d) [
    | inl e ↦ rw (← e) (none_before (suc c) c ranges l.canonical l.starts (omega arith) ∙ sym (right_is_false (is_scalar c) (set c) (rw e of_d) out))
    | inr (inl less) ↦ l.same d of_d (omega (arith, less)) (omega (arith, high))
    | inr (inr more) ↦ absurd (omega (arith, low, more))
  ];
}

lists_from : (set : Set) (n c : ℕ) → ListsFrom set n c (ranges_from set n c)
unfolding ranges_from
lists_from set zero c = record { canonical = tt; starts = tt; same = λ d of_d low high. absurd (omega (arith, low, high)) }
lists_from set (suc n) c = elim (cases_Bool (is_scalar c && set c)) [
  | inl both ↦ (let parts = and_parts (is_scalar c) (set c) both in
      rw both (with_character set n c (ranges_from set n (suc c)) parts.0 parts.1 (lists_from set n (suc c))))
  | inr out ↦ rw out (without_character set n c (ranges_from set n (suc c)) out (lists_from set n (suc c)))
]

below_all : (c : ℕ) → is_scalar c ≡ true → c < 0x11_0000
below_all c scalar = elim (scalar_within c scalar) [ inl low ↦ omega (arith, low) | inr high ↦ omega (arith, high.1) ]

-- the canonical ranges of a set list it
pub ranges_of_list : RangesOfList
unfolding ranges_of
ranges_of_list set =
    let l = lists_from set 0x11_0000 0 in
    record { canonical = l.canonical; same = λ d of_d. l.same d of_d (omega arith) (omega (arith, below_all d of_d)) }

-- each set has a list
pub lists_all : ListsAll
lists_all set = (ranges_of set, ranges_of_list set)

-- each canonical list of a set is its canonical ranges
pub lists_are_ranges_of : (set : Set) (ranges : List Range) → Lists ranges set → ranges ≡ ranges_of set
lists_are_ranges_of set ranges l = lists_once set ranges (ranges_of set) l (ranges_of_list set)

-- a canonical list of a set also lists each set with the same scalar values
pub lists_same : (a b : Set) (ranges : List Range) → ((c : ℕ) → is_scalar c ≡ true → a c ≡ b c) → Lists ranges a → Lists ranges b
lists_same a b ranges same l = record { canonical = l.canonical; same = λ c scalar. l.same c scalar ∙ same c scalar }

-- a list joined of two contains what either contains
pub in_ranges-append : (a b : List Range) (c : ℕ) → in_ranges (a ++ b) c ≡ (in_ranges a c || in_ranges b c)
in_ranges-append a b c = list_any-append (λ r. in_range r c) a b

-- a list with one range more contains what the list or the range contains
pub in_ranges-push : (ranges : List Range) (r : Range) (c : ℕ) → in_ranges (ranges ++ r ∷ []) c ≡ (in_ranges ranges c || in_range r c)
in_ranges-push ranges r c = in_ranges-append ranges (r ∷ []) c ∙ ap (λ b. in_ranges ranges c || b) (or-false (in_range r c))
