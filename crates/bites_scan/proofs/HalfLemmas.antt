-- A set of bytes as two tables of columns: what the look-ups by half bytes give.
use Rattle.std.proofs.Common.{◌≡◌, ℕ, zero, suc, ◌+◌, ◌*◌, ◌/◌, ◌%◌, ◌^◌, ◌<◌, ◌≤◌, eqb, ltb, leb, Bool, true, false, cond, ◌||◌, T, List, [], ◌∷◌, map, length, get_or, bit_and, bit_or, w8, Fits, refl, sym, ap, ap₂, ◌∙◌, subst, arith, inl, inr, eqb-true, leb-true}
use Rattle.std.proofs.lemmas.Bool.{agree_below, agree_below_at, cases_lt, cond-true, cond-false, lt-ltb, le-ltb}
use Rattle.std.proofs.lemmas.List.{ext_get_or, get_or_past, get_or-map, length-map}
use Rattle.std.proofs.lemmas.Nat.{and_mask}
use Rattle.std.proofs.lemmas.Nat.Bits.{and_pow}
use Rattle.std.proofs.lemmas.Simd.{SwzOk, swz_l, SwzOk-from_Each1, length-swz_l, get_or-swz_l, bit_mask_l}
use Rattle.std.specs.Int.{bit_at}
use Rattle.std.specs.Int.Bits.{bit_xor, or_zero_l, or_zero_r}
use lib.Lanes.{Each1, mask_l}
use mir.Val.{zeroes, bool_byte}
use Rattle.bites_scan.specs.Halves.{IsColumn, bits, looked_up}
use Rattle.bites_scan.specs.Lanes.{is_marked}

abbrev pub IsVector : List ℕ → Type 0
IsVector v = (length v ≡ 16) × Each1 (Fits w8) v

-- an index that a look-up in 16 lanes takes
abbrev pub is_index : ℕ → Bool
is_index j = zeroes 16 w8 j || ltb j 16

each_index : (g : ℕ → ℕ) (v : List ℕ) → agree_below (λ x. is_index (g x)) (λ _. true) 256 ≡ true → Each1 (Fits w8) v → Each1 (λ j. T (is_index j)) (map g v)
each_index g [] small fits = tt
each_index g (x ∷ xs) small fits = (subst T (sym (agree_below_at (λ x. is_index (g x)) (λ _. true) 256 x small fits.0.fits)) tt, each_index g xs small fits.1)

pub indices : (g : ℕ → ℕ) (v js : List ℕ) → agree_below (λ x. is_index (g x)) (λ _. true) 256 ≡ true → IsVector v → js ≡ map g v → SwzOk w8 16 16 0 js
indices g v js small is e =
    subst (SwzOk w8 16 16 0) (sym e) (SwzOk-from_Each1 w8 16 1 16 0 (map g v) refl (omega (arith, length-map v g, is.0)) (each_index g v small is.1))

-- a lane of a look-up, at an index that may be too large
cell : (t : List ℕ) (j m : ℕ) → length t ≡ 16 → m < 16 → cond (zeroes 16 w8 j) zero (get_or t (16 * ((0 + m) / 16) + j) zero) ≡ get_or t j zero
cell t j m long lt = go (leb 128 j) refl
  where
    go : (b : Bool) → leb 128 j ≡ b → cond b zero (get_or t (16 * ((0 + m) / 16) + j) zero) ≡ get_or t j zero
    go true e = sym (get_or_past t j 0 (omega (arith, leb-true _ _ e)))
    go false e =
        let at : 16 * ((0 + m) / 16) + j ≡ j = omega arith in
        ap (λ k. get_or t k 0) at

pub looked : (g : ℕ → ℕ) (v js t : List ℕ) → length t ≡ 16 → IsVector v → js ≡ map g v → swz_l w8 16 t 0 js ≡ map (λ x. get_or t (g x) 0) v
looked g v js t long is e =
    let many : length js ≡ 16 = ap length e ∙ length-map v g ∙ is.0 in
    ext_get_or 0 _ _ (length-swz_l w8 16 t 0 js ∙ many ∙ sym (length-map v (λ x. get_or t (g x) 0) ∙ is.0)) (λ i h.
    let lt : i < 16 = omega (arith, length-swz_l w8 16 t 0 js) in
    get_or-swz_l w8 16 t 0 js i (omega arith) ∙ cell t (get_or js i 0) i long lt
    ∙ ap (λ k. get_or t k 0) (ap (λ l. get_or l i 0) e ∙ get_or-map g v i 0 0 (omega arith))
    ∙ sym (get_or-map (λ x. get_or t (g x) 0) v i 0 0 (omega arith)))

-- ---- columns

pub byte_of : (b : Bool) → bool_byte b ≡ cond b 1 0
byte_of true = refl
byte_of false = refl

-- eight tests as a number
pub is_column : (has : ℕ → Bool) (first cell : ℕ)
    → cell ≡ mask_l (has first ∷ has (first + 16) ∷ has (first + 32) ∷ has (first + 48) ∷ has (first + 64) ∷ has (first + 80) ∷ has (first + 96) ∷ has (first + 112) ∷ [])
    → IsColumn has first cell
is_column has first cell e row lt = ap (λ n. bit_at n row) e ∙ bit_mask_l ms row ∙ ap (λ b. cond b 1 0) (flag row lt)
  where
    ms : List Bool
    ms = has first ∷ has (first + 16) ∷ has (first + 32) ∷ has (first + 48) ∷ has (first + 64) ∷ has (first + 80) ∷ has (first + 96) ∷ has (first + 112) ∷ []

    at : (i j : ℕ) → i ≡ j → has i ≡ has j
    at i j = ap has

    flag : (r : ℕ) → r < 8 → get_or ms r false ≡ has (first + 16 * r)
    flag zero h = at first (first + 16 * 0) (omega arith)
    flag (suc zero) h = at (first + 16) (first + 16 * 1) (omega arith)
    flag (suc (suc zero)) h = at (first + 32) (first + 16 * 2) (omega arith)
    flag (suc (suc (suc zero))) h = at (first + 48) (first + 16 * 3) (omega arith)
    flag (suc (suc (suc (suc zero)))) h = at (first + 64) (first + 16 * 4) (omega arith)
    flag (suc (suc (suc (suc (suc zero))))) h = at (first + 80) (first + 16 * 5) (omega arith)
    flag (suc (suc (suc (suc (suc (suc zero)))))) h = at (first + 96) (first + 16 * 6) (omega arith)
    flag (suc (suc (suc (suc (suc (suc (suc zero))))))) h = at (first + 112) (first + 16 * 7) (omega arith)
    flag (suc (suc (suc (suc (suc (suc (suc (suc r)))))))) h = absurd (omega arith)

low_at : (x : ℕ) → x < 256 → bit_and x 143 ≡ cond (ltb x 128) (x % 16) (128 + x % 16)
low_at x h = eqb-true _ _ (agree_below_at (λ x. eqb (bit_and x 143) (cond (ltb x 128) (x % 16) (128 + x % 16))) (λ _. true) 256 x refl h)

high_at : (x : ℕ) → x < 256 → bit_and (bit_xor x 128) 143 ≡ cond (ltb x 128) (128 + x % 16) (x % 16)
high_at x h = eqb-true _ _ (agree_below_at (λ x. eqb (bit_and (bit_xor x 128) 143) (cond (ltb x 128) (128 + x % 16) (x % 16))) (λ _. true) 256 x refl h)

bit_of : (x : ℕ) → x < 256 → get_or bits (x / 16) 0 ≡ 2 ^ (x / 16 % 8)
bit_of x h = eqb-true _ _ (agree_below_at (λ x. eqb (get_or bits (x / 16) 0) (2 ^ (x / 16 % 8))) (λ _. true) 256 x refl h)

-- the bit of a column that stands for a byte
marked_bit : (b : Bool) (row : ℕ) → row < 8 → is_marked (cond b 1 0 * 2 ^ row) ≡ b
marked_bit true row h = agree_below_at (λ r. is_marked (1 * 2 ^ r)) (λ _. true) 8 row refl h
marked_bit false row h = agree_below_at (λ r. is_marked (0 * 2 ^ r)) (λ _. false) 8 row refl h

in_column : (has : ℕ → Bool) (first cell row : ℕ) → row < 8 → IsColumn has first cell → is_marked (bit_and cell (2 ^ row)) ≡ has (first + 16 * row)
in_column has first cell row h is = ap is_marked (and_pow cell row ∙ ap (λ n. n * 2 ^ row) (is row h)) ∙ marked_bit _ row h

module _ (has : ℕ → Bool) (low high : List ℕ) (ll : length low ≡ 16) (lh : length high ≡ 16)
    (lows : (h : ℕ) → h < 16 → IsColumn has h (get_or low h 0)) (highs : (h : ℕ) → h < 16 → IsColumn has (128 + h) (get_or high h 0)) where
  in_low : (x : ℕ) → x < 128 → is_marked (looked_up low high x) ≡ has x
  in_low x h =
      let half : x % 16 < 16 = omega arith in
      let row : x / 16 < 8 = omega arith in
      let l : bit_and x 143 ≡ x % 16 = low_at x (omega arith) ∙ cond-true _ _ _ (lt-ltb x 128 h) in
      let u : bit_and (bit_xor x 128) 143 ≡ 128 + x % 16 = high_at x (omega arith) ∙ cond-true _ _ _ (lt-ltb x 128 h) in
      let r : x / 16 % 8 ≡ x / 16 = omega arith in
      let whole : x % 16 + 16 * (x / 16) ≡ x = omega arith in
      ap is_marked (ap₂ bit_and (ap₂ bit_or (ap (λ k. get_or low k 0) l) (ap (λ k. get_or high k 0) u ∙ get_or_past high (128 + x % 16) 0 (omega arith)) ∙ or_zero_r _) (bit_of x (omega arith) ∙ ap (λ k. 2 ^ k) r))
      ∙ in_column has (x % 16) (get_or low (x % 16) 0) (x / 16) row (lows (x % 16) half) ∙ ap has whole

  in_high : (x : ℕ) → 128 ≤ x → x < 256 → is_marked (looked_up low high x) ≡ has x
  in_high x g h =
      let half : x % 16 < 16 = omega arith in
      let row : x / 16 % 8 < 8 = omega arith in
      let l : bit_and x 143 ≡ 128 + x % 16 = low_at x h ∙ cond-false _ _ _ (le-ltb x 128 g) in
      let u : bit_and (bit_xor x 128) 143 ≡ x % 16 = high_at x h ∙ cond-false _ _ _ (le-ltb x 128 g) in
      let whole : 128 + x % 16 + 16 * (x / 16 % 8) ≡ x = omega arith in
      ap is_marked (ap₂ bit_and (ap₂ bit_or (ap (λ k. get_or low k 0) l ∙ get_or_past low (128 + x % 16) 0 (omega arith)) (ap (λ k. get_or high k 0) u) ∙ or_zero_l _) (bit_of x h))
      ∙ in_column has (128 + x % 16) (get_or high (x % 16) 0) (x / 16 % 8) row (highs (x % 16) half) ∙ ap has whole

  pub agreed : (x : ℕ) → x < 256 → is_marked (looked_up low high x) ≡ has x
  agreed x h = elim (cases_lt x 128) [ inl l ↦ in_low x l | inr g ↦ in_high x g h ]

-- ---- one byte

low_column : (x : ℕ) → x < 128 → bit_and x 143 ≡ bit_and x 15
low_column x h = eqb-true _ _ (agree_below_at (λ x. eqb (bit_and x 143) (bit_and x 15)) (λ _. true) 128 x refl h)

high_column : (x : ℕ) → x < 256 → 128 ≤ x → bit_and (bit_xor x 128) 143 ≡ bit_and x 15
high_column x h g = high_at x h ∙ cond-false _ _ _ (le-ltb x 128 g) ∙ sym (and_mask x 4)

module _ (low high : List ℕ) (ll : length low ≡ 16) (lh : length high ≡ 16) where
  pub looked_up_low : (x : ℕ) → x < 128 → looked_up low high x ≡ bit_and (get_or low (bit_and x 15) 0) (get_or bits (x / 16) 0)
  looked_up_low x h =
      let u : bit_and (bit_xor x 128) 143 ≡ 128 + x % 16 = high_at x (omega arith) ∙ cond-true _ _ _ (lt-ltb x 128 h) in
      ap (λ n. bit_and n (get_or bits (x / 16) 0))
      (ap₂ bit_or (ap (λ k. get_or low k 0) (low_column x h)) (ap (λ k. get_or high k 0) u ∙ get_or_past high (128 + x % 16) 0 (omega arith)) ∙ or_zero_r _)

  pub looked_up_high : (x : ℕ) → x < 256 → 128 ≤ x → looked_up low high x ≡ bit_and (get_or high (bit_and x 15) 0) (get_or bits (x / 16) 0)
  looked_up_high x h g =
      let l : bit_and x 143 ≡ 128 + x % 16 = low_at x h ∙ cond-false _ _ _ (le-ltb x 128 g) in
      ap (λ n. bit_and n (get_or bits (x / 16) 0))
      (ap₂ bit_or (ap (λ k. get_or low k 0) l ∙ get_or_past low (128 + x % 16) 0 (omega arith)) (ap (λ k. get_or high k 0) (high_column x h g)) ∙ or_zero_l _)
