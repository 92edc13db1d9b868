-- The other cases of the letters in a range and in lists of ranges.
use Rattle.std.proofs.Common.{◌≡◌, ℕ, ◌+◌, ◌-◌, ◌≤◌, max, min, Bool, true, false, ◌&&◌, inl, inr, refl, sym, ◌∙◌, arith, leb-true}
use Rattle.std.specs.Ordering.{nat_cmp, ord_max, ord_min}
use Rattle.std.specs.Char.{UppercasesTo, LowercasesTo}
use Rattle.std.proofs.lemmas.Bool.{cases_lt, cases_eq, lt-ltb, le-ltb, eq-eqb, ne_eqb, and_parts, and_from}
use Rattle.bites_spec.specs.Range.{Range, in_range}
use Rattle.bites_spec.specs.Class.{is_lower, is_upper}
use Rattle.bites_syntax.proofs.Merging.{in_range-within}

-- the greater of two characters
pub ord_max-nat : (a b : ℕ) → ord_max nat_cmp a b ≡ max a b
ord_max-nat a b = elim (cases_lt b a) [
  | inl less ↦ rw (lt-ltb b a less) (omega (arith, less))
  | inr more ↦ elim (cases_eq b a) [
    | inl e ↦ rw (le-ltb b a more, eq-eqb b a e) (omega (arith, e))
    | inr n ↦ rw (le-ltb b a more, ne_eqb b a n) (omega (arith, more))
  ]
]

-- the smaller of two characters
pub ord_min-nat : (a b : ℕ) → ord_min nat_cmp a b ≡ min a b
ord_min-nat a b = elim (cases_lt b a) [
  | inl less ↦ rw (lt-ltb b a less) (omega (arith, less))
  | inr more ↦ elim (cases_eq b a) [
    | inl e ↦ rw (le-ltb b a more, eq-eqb b a e) (omega (arith, e))
    | inr n ↦ rw (le-ltb b a more, ne_eqb b a n) (omega (arith, more))
  ]
]

same_tests : (a b : Bool) → (a ≡ true → b ≡ true) → (b ≡ true → a ≡ true) → a ≡ b
same_tests true b there back = sym (there refl)
same_tests false true there back = back refl
same_tests false false there back = refl

within : (r : Range) (c : ℕ) → in_range r c ≡ true → (r.0 ≤ c) × (c ≤ r.1)
within r c e = let parts = and_parts _ _ e in (leb-true r.0 c parts.0, leb-true c r.1 parts.1)

upper_of : (c r : ℕ) → 97 ≤ c → c ≤ 122 → UppercasesTo c r → r + 32 ≡ c
upper_of c r low high (inl u) = u.1
upper_of c r low high (inr (inl below, e)) = absurd (omega (arith, low, below))
upper_of c r low high (inr (inr above, e)) = absurd (omega (arith, high, above))

lower_of : (c r : ℕ) → 65 ≤ c → c ≤ 90 → LowercasesTo c r → r ≡ c + 32
lower_of c r low high (inl l) = l.1
lower_of c r low high (inr (inl below, e)) = absurd (omega (arith, low, below))
lower_of c r low high (inr (inr above, e)) = absurd (omega (arith, high, above))

-- the upper cases of the letters between two characters
pub in_upper_case : (start end low high first last : ℕ) → low ≡ ord_max nat_cmp start 97 → high ≡ ord_min nat_cmp end 122 → low ≤ high →
    UppercasesTo low first → UppercasesTo high last → (c : ℕ) → in_range (first, last) c ≡ (is_upper c && in_range (start, end) (c + 32))
in_upper_case start end low high first last is_low is_high some up_low up_high c =
    let at_low : low ≡ max start 97 = is_low ∙ ord_max-nat start 97 in
    let at_high : high ≡ min end 122 = is_high ∙ ord_min-nat end 122 in
    let f : first + 32 ≡ low = upper_of low first (omega (arith, at_low)) (omega (arith, at_high, some)) up_low in
    let l : last + 32 ≡ high = upper_of high last (omega (arith, at_low, some)) (omega (arith, at_high)) up_high in
    same_tests (in_range (first, last) c) (is_upper c && in_range (start, end) (c + 32))
    (λ e. (let w = within (first, last) c e in and_from (is_upper c) (in_range (start, end) (c + 32))
    (in_range-within (65, 90) c (omega (arith, w.0, f, at_low)) (omega (arith, w.1, l, at_high)))
    (in_range-within (start, end) (c + 32) (omega (arith, w.0, f, at_low)) (omega (arith, w.1, l, at_high)))))
    (λ e. (let parts = and_parts (is_upper c) (in_range (start, end) (c + 32)) e in
    let u = within (65, 90) c parts.0 in let w = within (start, end) (c + 32) parts.1 in
    in_range-within (first, last) c (omega (arith, u.0, w.0, f, at_low)) (omega (arith, u.1, w.1, l, at_high))))

-- the lower cases of the letters between two characters
pub in_lower_case : (start end low high first last : ℕ) → low ≡ ord_max nat_cmp start 65 → high ≡ ord_min nat_cmp end 90 → low ≤ high →
    LowercasesTo low first → LowercasesTo high last → (c : ℕ) → in_range (first, last) c ≡ (is_lower c && in_range (start, end) (c - 32))
in_lower_case start end low high first last is_low is_high some low_low low_high c =
    let at_low : low ≡ max start 65 = is_low ∙ ord_max-nat start 65 in
    let at_high : high ≡ min end 90 = is_high ∙ ord_min-nat end 90 in
    let f : first ≡ low + 32 = lower_of low first (omega (arith, at_low)) (omega (arith, at_high, some)) low_low in
    let l : last ≡ high + 32 = lower_of high last (omega (arith, at_low, some)) (omega (arith, at_high)) low_high in
    same_tests (in_range (first, last) c) (is_lower c && in_range (start, end) (c - 32))
    (λ e. (let w = within (first, last) c e in and_from (is_lower c) (in_range (start, end) (c - 32))
    (in_range-within (97, 122) c (omega (arith, w.0, f, at_low)) (omega (arith, w.1, l, at_high)))
    (in_range-within (start, end) (c - 32) (omega (arith, w.0, f, at_low)) (omega (arith, w.1, l, at_high)))))
    (λ e. (let parts = and_parts (is_lower c) (in_range (start, end) (c - 32)) e in
    let u = within (97, 122) c parts.0 in let w = within (start, end) (c - 32) parts.1 in
    in_range-within (first, last) c (omega (arith, u.0, w.0, f, at_low)) (omega (arith, u.1, w.1, l, at_high))))
