-- Numbers read digit by digit: when they are too large, and what they are at the end.
use Rattle.std.proofs.lemmas.Grind.{common_steps}
use Rattle.std.proofs.Common.{◌≡◌, ℕ, zero, suc, ◌+◌, ◌-◌, ◌*◌, ◌<◌, ◌≤◌, Bool, true, false, ◌&&◌, List, [], ◌∷◌, length, get_or, drop, None, refl, ap, ◌∙◌, arith}
use Rattle.std.specs.Prelude.{nat_le}
use Rattle.std.proofs.lemmas.Bool.Decides.{nat_tests}
use Rattle.bites_spec.specs.Template.{value_from, number_of_digits}

value_grows : (n : ℕ) (ds : List ℕ) → n ≤ value_from n ds
value_grows n [] = omega arith
value_grows n (d ∷ ds) = omega (arith, value_grows (n * 10 + (d - 48)) ds)

value_next : (n : ℕ) (ds : List ℕ) (i : ℕ) → i < length ds → value_from n (drop i ds) ≡ value_from (n * 10 + (get_or ds i 0 - 48)) (drop (i + 1) ds)
value_next n [] i lt = absurd (omega arith)
value_next n (d ∷ ds) zero lt = refl
value_next n (d ∷ ds) (suc i) lt = value_next n ds i (omega arith) ∙ ap (λ (k : ℕ). value_from (n * 10 + (get_or ds i 0 - 48)) (drop k (d ∷ ds))) (next i)
  where
    next : (i : ℕ) → suc (i + 1) ≡ suc i + 1
    next i = omega arith

pub not_below : (a b : ℕ) → b < a → nat_le a b ≡ false
not_below a b lt = grind (arith, nat_tests)

pub and_false : (a b : Bool) → b ≡ false → (a && b) ≡ false
and_false true b e = e
and_false false b e = refl

-- a next digit that makes the number too large: the digits make no number
pub digits_too_large : (largest number : ℕ) (ds : List ℕ) (i : ℕ) → i < length ds → largest < number * 10 + (get_or ds i 0 - 48) →
    value_from 0 ds ≡ value_from number (drop i ds) → None ≡ number_of_digits largest ds
digits_too_large largest number [] i lt big value = absurd (omega arith)
digits_too_large largest number (d ∷ ds) i lt big value = grind (arith, common_steps, value_next, value_grows, and_false)
