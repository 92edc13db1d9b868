-- Lists of ranges, by their elements.
use Rattle.std.proofs.Common.{◌≡◌, ℕ, suc, ◌≤◌, List, [], ◌∷◌, ◌++◌, Option, None, length, drop, sym, ap, subst, ◌∙◌, arith}
use Rattle.std.specs.Prelude.{All}
use Rattle.std.specs.List.Sorted.{IsNonDecreasingBy}
use Rattle.std.proofs.lemmas.List.Elements.{All-nil, All-cons, All-head, All-tail}
use Rattle.std.proofs.lemmas.List.{at_drop_all}
use Rattle.bites_spec.specs.Range.{Range, in_ranges}
use Rattle.bites_spec.specs.Class.{IsRange, AreCanonical, Lists}
use Rattle.bites_spec.proofs.classes.RangeLemmas.{is_range, tail_is_canonical}
use Rattle.bites_spec.proofs.classes.ClassLemmas.{StartsFrom}
use Rattle.bites_syntax.proofs.Merging.{RiseFrom, merged, lists_merged}

-- each of the canonical ranges of a set is one
pub all_are_ranges : (ranges : List Range) → AreCanonical ranges → All IsRange ranges
all_are_ranges [] g = All-nil IsRange
all_are_ranges (r ∷ ranges) g = All-cons IsRange r ranges (is_range r ranges g) (all_are_ranges ranges (tail_is_canonical r ranges g))

sorted_tail : (r : Range) (ranges : List Range) → IsNonDecreasingBy (λ s. s.0) (r ∷ ranges) → IsNonDecreasingBy (λ s. s.0) ranges
sorted_tail r ranges sorted = λ i j d low high. sorted (suc i) (suc j) d (omega (arith, low)) (omega (arith, high))

next_starts : (r : Range) (ranges : List Range) → IsNonDecreasingBy (λ s. s.0) (r ∷ ranges) → StartsFrom r.0 ranges
next_starts r [] sorted = tt
next_starts r (s ∷ ranges) sorted = sorted 0 1 r (omega arith) (omega arith)

-- sorted ranges do not fall
pub rise_from_sorted : (n : ℕ) (ranges : List Range) → StartsFrom n ranges → All IsRange ranges → IsNonDecreasingBy (λ s. s.0) ranges → RiseFrom n ranges
rise_from_sorted n [] from all sorted = tt
rise_from_sorted n (r ∷ ranges) from all sorted =
    (from, All-head IsRange r ranges all, rise_from_sorted r.0 ranges (next_starts r ranges sorted) (All-tail IsRange r ranges all) (sorted_tail r ranges sorted))

-- after the last range nothing is left to merge
pub merged_at_end : (done ranges : List Range) (i : ℕ) (last : Option Range) → length ranges ≤ i →
    done ++ merged last (drop i ranges) ≡ merged None ranges → done ++ merged last [] ≡ merged None ranges
merged_at_end done ranges i last all so_far = ap (λ x. done ++ x) (sym (at_drop_all (merged last) ranges i all)) ∙ so_far

pub starts_anywhere : (ranges : List Range) → StartsFrom 0 ranges
starts_anywhere [] = tt
starts_anywhere (r ∷ ranges) = omega arith

-- what equals the merged ranges lists the characters of the ranges
pub lists_merged_as : (ranges all : List Range) → All IsRange ranges → IsNonDecreasingBy (λ s. s.0) ranges → all ≡ merged None ranges → Lists all (in_ranges ranges)
lists_merged_as ranges all are sorted e =
    subst (λ x. Lists x (in_ranges ranges)) (sym e) (lists_merged ranges (rise_from_sorted 0 ranges (starts_anywhere ranges) are sorted))
