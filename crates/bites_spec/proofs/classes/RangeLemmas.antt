-- A set has one list of canonical ranges.
use Rattle.std.proofs.lemmas.Grind.{common_steps}
use Rattle.std.proofs.Common.{◌≡◌, ℕ, ◌<◌, ◌≤◌, true, false, List, [], ◌∷◌, refl, sym, ap₂, ◌∙◌, subst, inl, inr, ⊎_elim, true≢false, arith, ◌⊎◌, eq-eqb, ne_eqb, le-leb, leb-true}
use Rattle.std.proofs.lemmas.Bool.{lt-leb, cases_lt, cases_eq, and_parts, lt-ltb, le-ltb, cases_Bool}
use Rattle.bites_spec.specs.Range.{Range, in_ranges}
use Rattle.bites_spec.specs.Class.{is_scalar, following, IsRange, AreCanonical, ListsOnce}

-- a character is below the one that follows it
pub after_following : (c : ℕ) → c < following c
after_following c = ⊎_elim (λ e. rw (eq-eqb c 0xD7FF e) (omega (arith, e))) (λ n. rw (ne_eqb c 0xD7FF n) (omega arith)) (cases_eq c 0xD7FF)

-- the first of canonical ranges is a range
pub is_range : (r : Range) (ranges : List Range) → AreCanonical (r ∷ ranges) → IsRange r
is_range r [] g = g
is_range r (s ∷ ranges) g = g.0

-- a list contains nothing below its first range
pub none_below : (r : Range) (ranges : List Range) → AreCanonical (r ∷ ranges) → (c : ℕ) → c < r.0 → in_ranges (r ∷ ranges) c ≡ false
none_below r [] g c low = rw (lt-leb r.0 c low) refl
none_below r (s ∷ ranges) g c low =
    rw (lt-leb r.0 c low, none_below s ranges g.2 c (omega (arith, low, g.0.2, g.1, after_following r.1))) refl

-- up to the value that follows the first range, the other ranges contain nothing
pub behind : (r : Range) (ranges : List Range) → AreCanonical (r ∷ ranges) → (c : ℕ) → c ≤ following r.1 → in_ranges ranges c ≡ false
behind r [] g c low = refl
behind r (s ∷ ranges) g c low = none_below s ranges g.2 c (omega (arith, low, g.1))

-- the ranges after the first are canonical, too
pub tail_is_canonical : (r : Range) (ranges : List Range) → AreCanonical (r ∷ ranges) → AreCanonical ranges
tail_is_canonical r [] g = tt
tail_is_canonical r (s ∷ ranges) g = g.2

-- below the surrogates, or above them and at most 10FFFF
abbrev pub Within : ℕ → Type 0
Within c = (c < 0xD800) ⊎ ((0xE000 ≤ c) × (c ≤ 0x10_FFFF))

-- a scalar value is no surrogate and at most 10FFFF
pub scalar_within : (c : ℕ) → is_scalar c ≡ true → Within c
scalar_within c e = grind (arith, common_steps, cases_lt, and_parts, le-ltb)

-- a number that is no surrogate and at most 10FFFF is a scalar value
pub within_scalar : (c : ℕ) → Within c → is_scalar c ≡ true
within_scalar c (inl low) = rw (lt-ltb c 0xD800 low) refl
within_scalar c (inr (high)) = rw (le-ltb c 0xD800 (omega (arith, high.0)), le-leb 0xE000 c high.0, le-leb c 0x10_FFFF high.1) refl

-- of two scalar values in order, the character that follows the first is a scalar value and not above the second
pub following_within : (c d : ℕ) → Within c → Within d → c < d → Within (following c) × (following c ≤ d)
following_within c d wc wd lt = grind (arith, common_steps, cases_eq, eq-eqb)

abbrev Same : List Range → List Range → Type 0
Same a b = (c : ℕ) → is_scalar c ≡ true → in_ranges a c ≡ in_ranges b c

-- a character in the first range is in the list
pub in_first : (r : Range) (a : List Range) (c : ℕ) → r.0 ≤ c → c ≤ r.1 → in_ranges (r ∷ a) c ≡ true
in_first r a c low high = rw (le-leb r.0 c low, le-leb c r.1 high) refl

not_lower : (r s : Range) (a b : List Range) → AreCanonical (r ∷ a) → AreCanonical (s ∷ b) → Same (r ∷ a) (s ∷ b) → s.0 ≤ r.0
not_lower r s a b ga gb same = grind (arith, common_steps, cases_lt, is_range, true≢false, in_first, none_below)

not_shorter : (r s : Range) (a b : List Range) → AreCanonical (r ∷ a) → AreCanonical (s ∷ b) → Same (r ∷ a) (s ∷ b) → r.0 ≡ s.0 → s.1 ≤ r.1
not_shorter r s a b ga gb same start = elim (cases_lt r.1 s.1) [
  | inr ok ↦ ok
  | inl less ↦ (let is = is_range r a ga in let others = is_range s b gb in
      let next = following_within r.1 s.1 (scalar_within r.1 is.1) (scalar_within s.1 others.1) less in
      let outside : in_ranges (r ∷ a) (following r.1) ≡ false =
      rw (lt-leb (following r.1) r.1 (after_following r.1), le-leb r.0 (following r.1) (omega (arith, is.2, after_following r.1)), behind r a ga (following r.1) (omega arith)) refl in
      absurd (true≢false (sym (in_first s b (following r.1) (omega (arith, start, is.2, after_following r.1)) next.1)
      ∙ sym (same (following r.1) (within_scalar (following r.1) next.0)) ∙ outside)))
]

tails_same : (r : Range) (a b : List Range) → AreCanonical (r ∷ a) → AreCanonical (r ∷ b) → Same (r ∷ a) (r ∷ b) → Same a b
tails_same r a b ga gb same c scalar = grind (arith, common_steps, cases_Bool, and_parts, leb-true, behind, after_following)

one_list : (a b : List Range) → AreCanonical a → AreCanonical b → Same a b → a ≡ b
one_list [] [] ga gb same = refl
one_list [] (s ∷ b) ga gb same =
    let is = is_range s b gb in absurd (true≢false (sym (in_first s b s.0 (omega arith) is.2) ∙ sym (same s.0 is.0)))
one_list (r ∷ a) [] ga gb same =
    let is = is_range r a ga in absurd (true≢false (sym (in_first r a r.0 (omega arith) is.2) ∙ same r.0 is.0))
one_list (r ∷ a) (s ∷ b) ga gb same =
    let back : Same (s ∷ b) (r ∷ a) = λ c scalar. sym (same c scalar) in
    let start : r.0 ≡ s.0 = omega (arith, not_lower r s a b ga gb same, not_lower s r b a gb ga back) in
    let end : r.1 ≡ s.1 = omega (arith, not_shorter r s a b ga gb same start, not_shorter s r b a gb ga back (sym start)) in
    let first : s ≡ r = ap₂ (λ x y. (x, y)) (sym start) (sym end) in
    let gb' : AreCanonical (r ∷ b) = subst (λ x. AreCanonical (x ∷ b)) first gb in
    let same' : Same (r ∷ a) (r ∷ b) = subst (λ x. Same (r ∷ a) (x ∷ b)) first same in
    ap₂ (λ x y. x ∷ y) (sym first) (one_list a b (tail_is_canonical r a ga) (tail_is_canonical r b gb') (tails_same r a b ga gb' same'))

pub lists_once : ListsOnce
lists_once set a b la lb = one_list a b la.canonical lb.canonical (λ c scalar. la.same c scalar ∙ sym (lb.same c scalar))
