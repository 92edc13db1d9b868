-- Ranges that do not fall are merged into the canonical ones.
use Rattle.std.proofs.Common.{◌≡◌, ℕ, ◌<◌, ◌≤◌, max, true, false, ◌||◌, List, [], ◌∷◌, Option, Some, None, inl, inr, refl, ap, ◌∙◌, arith, le-leb}
use Rattle.std.specs.Prelude.{nat_le, if◌then◌else◌}
use Rattle.std.proofs.lemmas.Bool.{lt-leb, cases_lt}
use Rattle.bites_spec.specs.Range.{Range, in_range, in_ranges}
use Rattle.bites_spec.specs.Class.{is_scalar, following, IsRange, AreCanonical, Lists}
use Rattle.bites_spec.proofs.classes.RangeLemmas.{scalar_within, following_within}
use Rattle.bites_spec.proofs.classes.ClassLemmas.{StartsFrom, put_before}
use Rattle.std.proofs.Math.Bool.{or_assoc}

-- ranges that begin no lower than a number and do not fall
abbrev pub RiseFrom : ℕ → List Range → Type 0
RiseFrom n [] = Unit {0}
RiseFrom n (r ∷ ranges) = (n ≤ r.0) × IsRange r × RiseFrom r.0 ranges

-- the first range, which grows over those that touch it, and the others after it
abbrev pub merged_behind : Range → List Range → List Range
merged_behind r [] = r ∷ []
merged_behind r (s ∷ ranges) =
    if nat_le s.0 (following r.1) then merged_behind (r.0, max r.1 s.1) ranges else r ∷ merged_behind s ranges

-- like `merged_behind`, but there may be no first range yet
abbrev pub merged : Option Range → List Range → List Range
merged None [] = []
merged None (r ∷ ranges) = merged_behind r ranges
merged (Some r) ranges = merged_behind r ranges

rise_lower : (m n : ℕ) (ranges : List Range) → m ≤ n → RiseFrom n ranges → RiseFrom m ranges
rise_lower m n [] low rise = tt
rise_lower m n (r ∷ ranges) low rise = (omega (arith, low, rise.0), rise.1, rise.2)

longer : (r s : Range) → IsRange r → IsRange s → IsRange (r.0, max r.1 s.1)
longer r s ir is = elim (cases_lt r.1 s.1) [
  | inl less ↦ (let e : max r.1 s.1 ≡ s.1 = omega (arith, less) in rw e (ir.0, is.1, omega (arith, ir.2, less)))
  | inr more ↦ (let e : max r.1 s.1 ≡ r.1 = omega (arith, more) in rw e (ir.0, ir.1, ir.2))
]

-- what lies in a range
pub in_range-within : (r : Range) (c : ℕ) → r.0 ≤ c → c ≤ r.1 → in_range r c ≡ true
in_range-within r c low high = rw (le-leb r.0 c low, le-leb c r.1 high) refl

-- what lies below a range
pub in_range-below : (r : Range) (c : ℕ) → c < r.0 → in_range r c ≡ false
in_range-below r c low = rw (lt-leb r.0 c low) refl

-- what lies above a range
pub in_range-above : (r : Range) (c : ℕ) → r.0 ≤ c → r.1 < c → in_range r c ≡ false
in_range-above r c low high = rw (le-leb r.0 c low, lt-leb c r.1 high) refl

-- two ranges, where the second begins in the first or next to it
in_longer : (r s : Range) → IsRange r → r.0 ≤ s.0 → s.0 ≤ following r.1 → (c : ℕ) → is_scalar c ≡ true →
    in_range (r.0, max r.1 s.1) c ≡ (in_range r c || in_range s c)
in_longer r s ir low near c scalar = elim (cases_lt c r.0) [
  | inl below ↦ rw (in_range-below (r.0, max r.1 s.1) c below, in_range-below r c below, in_range-below s c (omega (arith, low, below))) refl
  | inr from ↦ elim (cases_lt r.1 c) [
    | inr within ↦ rw (in_range-within (r.0, max r.1 s.1) c from (omega (arith, within)), in_range-within r c from within) refl
    | inl above ↦ (let next = following_within r.1 c (scalar_within r.1 ir.1) (scalar_within c scalar) above in
        rw (in_range-above r c from above) (elim (cases_lt s.1 c) [
          | inl beyond ↦ rw (in_range-above (r.0, max r.1 s.1) c from (omega (arith, above, beyond)), in_range-above s c (omega (arith, near, next.1)) beyond) refl
          | inr inside ↦ rw (in_range-within (r.0, max r.1 s.1) c from (omega (arith, inside)), in_range-within s c (omega (arith, near, next.1)) inside) refl
        ]))
  ]
]

record Merges (r : Range) (ranges : List Range) (all : List Range) : Type 0 where
  canonical : AreCanonical all
  starts : StartsFrom r.0 all
  same : (c : ℕ) → is_scalar c ≡ true → in_ranges all c ≡ (in_range r c || in_ranges ranges c)

merges : (r : Range) (ranges : List Range) → IsRange r → RiseFrom r.0 ranges → Merges r ranges (merged_behind r ranges)
merges r [] is rise = record { canonical = is; starts = omega arith; same = λ c scalar. refl }
merges r (s ∷ ranges) is rise = elim (cases_lt (following r.1) s.0) [
  | inr near ↦ (
      let m = merges (r.0, max r.1 s.1) ranges (longer r s is rise.1) (rise_lower r.0 s.0 ranges rise.0 rise.2) in
      rw (le-leb s.0 (following r.1) near) record {
        canonical = m.canonical;
        starts = m.starts;
        same = λ c scalar. m.same c scalar ∙ ap (λ b. b || in_ranges ranges c) (in_longer r s is rise.0 near c scalar)
            ∙ or_assoc (in_range r c) (in_range s c) (in_ranges ranges c);
      })
  | inl apart ↦ (
      let m = merges s ranges rise.1 rise.2 in
      rw (lt-leb s.0 (following r.1) apart) record {
        canonical = put_before r s.0 (merged_behind s ranges) is apart m.canonical m.starts;
        starts = omega arith;
        same = λ c scalar. ap (λ b. in_range r c || b) (m.same c scalar);
      })
]

-- what is merged lists the characters of the ranges
pub lists_merged : (ranges : List Range) → RiseFrom 0 ranges → Lists (merged None ranges) (in_ranges ranges)
lists_merged [] rise = record { canonical = tt; same = λ c scalar. refl }
lists_merged (r ∷ ranges) rise = let m = merges r ranges rise.1 rise.2 in record { canonical = m.canonical; same = m.same }
