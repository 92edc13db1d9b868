-- Which bytes may stand at each offset: bits that are set one by one, and vectors in which no lane is below that of another one.
use Rattle.std.proofs.Common.{◌≡◌, ◌⊎◌, inl, inr, ℕ, zero, suc, ◌+◌, ◌-◌, ◌*◌, ◌/◌, ◌%◌, ◌^◌, ◌<◌, ◌≤◌, Bool, true, false, cond, bit_or, replicate, List, [], ◌∷◌, map, length, get_or, refl, sym, ap, ap₂, ◌∙◌, subst, arith, w8, w64}
use Rattle.std.proofs.lemmas.Bool.{cases_eq}
use Rattle.std.proofs.lemmas.Bool.Decides.{nat_tests}
use Rattle.std.proofs.lemmas.List.{get_or-set_same, get_or-set_other}
use Rattle.std.proofs.lemmas.Nat.Bits.{bit_at_set_other, bit_at-zero}
use Rattle.std.proofs.lemmas.Simd.{bit_mask_l, get_or-chunk, get_or-zip2, length-chunk, length-zip2, mask_l-mod, tops_compared}
use Rattle.std.specs.Int.{bit_at}
use Rattle.std.specs.Prelude.{nat_lt, slice_set}
use lib.Lanes.{zip2, mask_l, top, chunk}
use Rattle.bites_scan.proofs.CellLemmas.{cell_set, cells_still_set}
use Rattle.bites_literals.specs.AllowedBytes.{MayStand}

-- ## One bit more

module _ (masks : List ℕ) (o : ℕ) (lt : o < 64) (byte : ℕ) where
  abbrev pub with_bit : List ℕ
  with_bit = slice_set masks byte (bit_or (get_or masks byte 0) (1 * 2 ^ o % 2 ^ 64))

  pub bit_stands : byte < length masks → MayStand with_bit o byte
  bit_stands = cell_set w64 o lt masks byte

  same_elsewhere : (k b : ℕ) → ((k ≡ o) × (b ≡ byte) → ⊥) → byte < length masks → bit_at (get_or with_bit b 0) k ≡ bit_at (get_or masks b 0) k
  same_elsewhere k b not h = elim (cases_eq b byte) [
    | inr other ↦ ap (λ n. bit_at n k) (get_or-set_other masks byte b _ 0 other)
    | inl same ↦ elim (cases_eq k o) [
      | inl is ↦ absurd (not (is, same))
      | inr else ↦
          subst (λ b. bit_at (get_or with_bit b 0) k ≡ bit_at (get_or masks b 0) k) (sym same)
          (ap (λ n. bit_at n k) (get_or-set_same masks byte _ 0 h) ∙ bit_at_set_other w64 (get_or masks byte 0) o lt k else)
    ]
  ]

  pub bit_only : byte < length masks → (k b : ℕ) → MayStand with_bit k b → MayStand masks k b ⊎ ((k ≡ o) × (b ≡ byte))
  bit_only h k b e = elim (cases_eq k o) [
    | inl is ↦ elim (cases_eq b byte) [
      | inl same ↦ inr (is, same)
      | inr other ↦ inl (sym (same_elsewhere k b (λ both. other both.1) h) ∙ e)
    ]
    | inr else ↦ inl (sym (same_elsewhere k b (λ both. else both.0) h) ∙ e)
  ]

  pub bit_kept : byte < length masks → (k b : ℕ) → MayStand masks k b → MayStand with_bit k b
  bit_kept h k b = cells_still_set w64 o lt masks byte h b k

-- no bit is set in zeros
pub zero_everywhere : (n k b : ℕ) → MayStand (replicate n 0) k b → ⊥
zero_everywhere zero k b e = omega (arith, bit_at-zero k, e)
zero_everywhere (suc n) k zero e = omega (arith, bit_at-zero k, e)
zero_everywhere (suc n) k (suc b) e = zero_everywhere n k b e

-- ## Vectors

-- no flag is set in the mask exactly if each is false
none_set : (ms : List Bool) → mask_l ms ≡ 0 → (k : ℕ) → get_or ms k false ≡ false
none_set ms e k = is_false (get_or ms k false) (sym (bit_mask_l ms k) ∙ ap (λ n. n / 2 ^ k % 2) e ∙ omega arith)
  where
    is_false : (b : Bool) → ◌≡◌ {A = ℕ} (cond b 1 0) 0 → b ≡ false
    is_false false e = refl
    is_false true e = absurd (omega arith)

mask_none : (ms : List Bool) → ((k : ℕ) → k < length ms → get_or ms k false ≡ false) → mask_l ms ≡ 0
mask_none [] h = refl
mask_none (m ∷ ms) h = omega (arith, mask_none ms (λ k less. h (suc k) (omega (arith, less))), ap {B = ℕ} (λ b. cond b 1 0) (h 0 (omega arith)))

-- the mask of the lanes that are below those of another vector
abbrev pub mask_below : (xs ys : List ℕ) → (at : ℕ) → ℕ
mask_below xs ys at = mask_l (map (top 7) (zip2 (λ a b. cond (nat_lt a b) 255 0) (chunk at 16 xs) (chunk at 16 ys))) % 2 ^ 64

module _ (xs ys : List ℕ) (at : ℕ) (long : at + 16 ≤ length xs) (other : at + 16 ≤ length ys) where
  abbrev tests : List Bool
  tests = zip2 nat_lt (chunk at 16 xs) (chunk at 16 ys)

  count : length tests ≡ 16
  count = length-zip2 nat_lt (chunk at 16 xs) (chunk at 16 ys) (length-chunk at 16 xs long ∙ sym (length-chunk at 16 ys other)) ∙ length-chunk at 16 xs long

  is_mask : mask_below xs ys at ≡ mask_l tests
  is_mask = ap (λ ms. mask_l ms % 2 ^ 64) (tops_compared w8 nat_lt (chunk at 16 xs) (chunk at 16 ys)) ∙ mask_l-mod tests 64 (omega (arith, count))

  test_at : (k : ℕ) → k < 16 → get_or tests k false ≡ nat_lt (get_or xs (at + k) 0) (get_or ys (at + k) 0)
  test_at k less =
      get_or-zip2 nat_lt (chunk at 16 xs) (chunk at 16 ys) k 0 0 false (omega (arith, less, length-chunk at 16 xs long)) (omega (arith, less, length-chunk at 16 ys other))
      ∙ ap₂ nat_lt (get_or-chunk at 16 xs k 0 less) (get_or-chunk at 16 ys k 0 less)

  pub none_below : mask_below xs ys at ≡ 0 → (k : ℕ) → at ≤ k → k < at + 16 → get_or ys k 0 ≤ get_or xs k 0
  none_below e k from to =
      let here : at + (k - at) ≡ k = omega (arith, from) in
      let test = sym (test_at (k - at) (omega (arith, from, to))) ∙ none_set tests (sym is_mask ∙ e) (k - at) in
      subst (λ k. get_or ys k 0 ≤ get_or xs k 0) here (grind (arith, nat_tests))

  pub below_none : ((k : ℕ) → at ≤ k → k < at + 16 → get_or ys k 0 ≤ get_or xs k 0) → mask_below xs ys at ≡ 0
  below_none h = is_mask ∙ mask_none tests (λ k less.
      let inside : k < 16 = omega (arith, less, count) in
      let le = h (at + k) (omega arith) (omega (arith, inside)) in
      test_at k inside ∙ grind (arith, nat_tests))
