-- Tables of bits, and ranges that a binary search finds.
use Rattle.bites_machine.proofs.Library.{common_steps, ◌≡◌, ℕ, suc, ◌+◌, ◌-◌, ◌*◌, ◌/◌, ◌%◌, ◌^◌, ◌<◌, ◌≤◌, Bool, ◌||◌, min, List, [], ◌∷◌, sym, ap, ap₂, ◌∙◌, arith, ⊎_elim, slice_index, bit_and, bit_or, ◌==◌, cases_lt, nat_tests, in_range, has_bit, zero, true, false, length, get_or, list_any_at, list_any_none, get_or_default, Range, in_ranges, AreRanges, and_false}
use Rattle.std.specs.Int.{bit_at}
use Rattle.std.proofs.lemmas.Nat.{div-add-mod'}
use Rattle.std.proofs.lemmas.Nat.Bits.{bit_at_and, bit_at_or, bit_at-lt, bit_at_mask_inside, bit_at_mask_below, bit_at_ones, bit_at_ones_above, bit_at_cat_low, bit_at_cat_high, bit_at-zero, ones_shr, ones_shl}

-- the ones from `low` up to `high`
pub has_bit-within : (w low high c : ℕ) → low ≤ high → high < w →
    has_bit (bit_and ((2 ^ w - 1) * 2 ^ low % 2 ^ w) ((2 ^ w - 1) / 2 ^ (w - suc high))) c ≡ in_range (low, high) c
has_bit-within w low high c le lt = grind (arith, common_steps, bit_at_and, ones_shl, ones_shr, bit_at_mask_below, nat_tests, bit_at_ones_above, bit_at_mask_inside, bit_at_ones, cases_lt)

-- what lies in a range below a bound lies in the range up to the bound
pub in_range-min : (low high most c : ℕ) → c ≤ most → in_range (low, min high most) c ≡ in_range (low, high) c
in_range-min low high most c le = grind (arith, nat_tests)

-- the bits of one more range
pub has_bit-more : (bits more c : ℕ) (own rest all : Bool) → all ≡ (has_bit bits c || (own || rest)) → has_bit more c ≡ own → all ≡ (has_bit (bit_or bits more) c || rest)
has_bit-more bits more c own rest all e f = grind (arith, common_steps, bit_at_or, bit_at-lt)

-- the bits below 64 of a number, and those from 64 on
pub has_bit-words : (bits c : ℕ) → c < 128 → has_bit (slice_index (bit_and bits 18446744073709551615 ∷ bits / 18446744073709551616 ∷ []) (c / 64)) (c % 64) ≡ has_bit bits c
has_bit-words bits c lt = ⊎_elim low high (cases_lt c 64)
  where
    words : List ℕ
    words = bit_and bits 18446744073709551615 ∷ bits / 18446744073709551616 ∷ []

    low : c < 64 → has_bit (slice_index words (c / 64)) (c % 64) ≡ has_bit bits c
    low less =
        let g = bit_at_and bits 18446744073709551615 c in
        let h : bit_at 18446744073709551615 c ≡ 1 = bit_at_ones 64 c less in
        grind (arith, common_steps, bit_at-lt, words)

    high : 64 ≤ c → has_bit (slice_index words (c / 64)) (c % 64) ≡ has_bit bits c
    high from =
        let e : c / 64 ≡ 1 = omega arith in
        let f : c % 64 ≡ c - 64 = omega arith in
        let g : bit_at (bits / 2 ^ 64 * 2 ^ 64 + bits % 2 ^ 64) c ≡ bit_at (bits / 2 ^ 64) (c - 64) = bit_at_cat_high (bits / 2 ^ 64) 64 (bits % 2 ^ 64) c (omega arith) from in
        ap₂ (λ n m. has_bit (slice_index words n) m) e f ∙ ap (λ x. x == 1) (sym g ∙ ap (λ n. bit_at n c) (div-add-mod' bits (2 ^ 64)))

-- the bits of a word, 64 places up
pub has_bit-raised : (word low high c : ℕ) → word < 2 ^ 64 → 64 ≤ low → low ≤ high → ((n : ℕ) → has_bit word n ≡ in_range (low - 64, high - 64) n) →
    has_bit (word * 2 ^ 64 % 2 ^ 128) c ≡ in_range (low, high) c
has_bit-raised word low high c fits above order bits = ap (λ n. has_bit n c) whole ∙ ⊎_elim below from (cases_lt c 64)
  where
    whole : word * 2 ^ 64 % 2 ^ 128 ≡ word * 2 ^ 64 + 0
    whole = omega arith

    below : c < 64 → has_bit (word * 2 ^ 64 + 0) c ≡ in_range (low, high) c
    below less =
        let none : bit_at (word * 2 ^ 64 + 0) c ≡ 0 = bit_at_cat_low word 64 0 c less ∙ bit_at-zero c in
        ap (λ x. x == 1) none ∙ grind (arith, nat_tests)

    from : 64 ≤ c → has_bit (word * 2 ^ 64 + 0) c ≡ in_range (low, high) c
    from le = ap (λ x. x == 1) (bit_at_cat_high word 64 0 c (omega arith) le) ∙ bits (c - 64) ∙ grind (arith, nat_tests)

-- the range at an index
abbrev pub range_at : List Range → ℕ → Range
range_at rs k = get_or rs k (0, 0)

each_range : (rs : List Range) → AreRanges rs → (k : ℕ) → k < length rs → (range_at rs k).0 ≤ (range_at rs k).1
each_range (r ∷ []) are zero lt = are
each_range (r ∷ s ∷ rs) are zero lt = are.0
each_range (r ∷ s ∷ rs) are (suc k) lt = each_range (s ∷ rs) are.2 k (omega arith)
each_range _ are k lt = absurd (omega arith)

-- a range ends below the beginning of each later one
apart : (rs : List Range) → AreRanges rs → (k m : ℕ) → k < m → m < length rs → (range_at rs k).1 < (range_at rs m).0
apart (r ∷ s ∷ rs) are zero (suc zero) lt within = are.1
apart (r ∷ s ∷ rs) are zero (suc (suc m)) lt within = grind (arith, common_steps, each_range, (apart (s ∷ rs) are.2 zero (suc m)))
apart (r ∷ s ∷ rs) are (suc k) (suc m) lt within = apart (s ∷ rs) are.2 k m (omega arith) (omega arith)
apart _ are k m lt within = absurd (omega arith)

-- the ranges below an index end below c
abbrev pub AllEndBelow : List Range → ℕ → ℕ → Type 0
AllEndBelow rs n c = (k : ℕ) → k < n → (range_at rs k).1 < c

-- the ranges from an index on begin above c
abbrev pub AllBeginAbove : List Range → ℕ → ℕ → Type 0
AllBeginAbove rs n c = (k : ℕ) → n ≤ k → k < length rs → c < (range_at rs k).0

-- a range that ends below c leaves only those after it
pub below_more : (rs : List Range) (m c : ℕ) → AreRanges rs → m < length rs → (range_at rs m).1 < c → AllEndBelow rs (m + 1) c
below_more rs m c are within lt k below = grind (arith, apart, each_range, cases_lt)

-- a range that begins above c leaves only those before it
pub above_more : (rs : List Range) (m c : ℕ) → AreRanges rs → m < length rs → c < (range_at rs m).0 → AllBeginAbove rs m c
above_more rs m c are within lt k from below = grind (arith, apart, each_range, cases_lt)

-- the range at an index has c
pub hit : (rs : List Range) (m c : ℕ) → m < length rs → (range_at rs m).0 ≤ c → c ≤ (range_at rs m).1 → in_ranges rs c ≡ true
hit rs m c within from to = grind (arith, common_steps, list_any_at)

-- no range is left between the two parts
pub no_hit : (rs : List Range) (n m c : ℕ) → AllEndBelow rs n c → AllBeginAbove rs m c → m ≤ n → in_ranges rs c ≡ false
no_hit rs n m c below above le =
    list_any_none (λ r. in_range r c) rs (λ k d lt. ap (λ r. in_range r c) (get_or_default rs k d (0, 0) lt) ∙ misses k lt)
  where
    misses : (k : ℕ) → k < length rs → in_range (range_at rs k) c ≡ false
    misses k lt = grind (arith, common_steps, and_false, cases_lt)
