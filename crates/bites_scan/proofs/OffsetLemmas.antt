-- Bits of masks, and the offsets of a haystack that they stand for.
use Rattle.std.proofs.Common.{◌≡◌, ℕ, ◌+◌, ◌-◌, ◌*◌, ◌%◌, ◌^◌, ◌<◌, ◌≤◌, Bool, true, false, cond, List, ◌++◌, length, get_or, bit_and, w64, sym, ap, ◌∙◌, subst, arith, inl, inr, shl_exact, pow_mono}
use Rattle.std.proofs.lemmas.Bool.{cases_lt, cases_eq}
use Rattle.std.proofs.lemmas.List.{get_or_append_left, get_or-append_right}
use Rattle.std.proofs.lemmas.Nat.{and_le_l}
use Rattle.std.proofs.lemmas.Nat.Bits.{bit_at-zero, bit_at_above, bit_at_clear_same, bit_at_and, bit_at-lt, bit_at_not, bit_at_ones, bit_at_ones_above}
use Rattle.std.proofs.lemmas.Simd.{bit_mask_l}
use Rattle.std.specs.Int.{bit_at, bit_not}
use lib.Lanes.{mask_l}
use mir.Val.{bits}
use Rattle.bites_scan.specs.Lanes.{marks}
use Rattle.bites_scan.specs.Offsets.{NoneOccurs, Marks}
use Rattle.bites_scan.proofs.MarkLemmas.{length_marks}

-- ---- bits

pub bit_of_mark : (ms : List Bool) (m k : ℕ) → m ≡ mask_l ms → get_or ms k false ≡ true → bit_at m k ≡ 1
bit_of_mark ms m k e marked = ap (λ n. bit_at n k) e ∙ bit_mask_l ms k ∙ ap (λ b. cond b 1 0) marked

pub no_mark : (ms : List Bool) (k : ℕ) → mask_l ms ≡ 0 → get_or ms k false ≡ true → ⊥
no_mark ms k none marked =
    let one = bit_of_mark ms 0 k (sym none) marked in
    let zero_bit = bit_at-zero k in
    absurd (omega (arith, one, zero_bit))

-- a bit that is set in a number of n bits
pub bit_below : (n m lane : ℕ) → m < 2 ^ n → bit_at m lane ≡ 1 → lane < n
bit_below n m lane small set =
    elim (cases_lt lane n) [
      | inl h ↦ h
      | inr h ↦ absurd (omega (arith, set, bit_at_above m n lane small h))
    ]

pub cleared_smaller : (m bit : ℕ) → bit < 64 → bit_at m bit ≡ 1 → bit_and m (bit_not w64 (1 * 2 ^ bit % 2 ^ bits w64)) < m
cleared_smaller m bit h set =
    let r : ℕ = bit_and m (bit_not w64 (1 * 2 ^ bit % 2 ^ bits w64)) in
    let below : r ≤ m = and_le_l m (bit_not w64 (1 * 2 ^ bit % 2 ^ bits w64)) in
    elim (cases_eq r m) [
      | inl e ↦ absurd (omega (arith, set, bit_at_clear_same w64 m bit h, ap (λ n. bit_at n bit) e))
      | inr d ↦ lt_of r m below d
    ]
  where
    lt_of : (a b : ℕ) → a ≤ b → (a ≡ b → ⊥) → a < b
    lt_of a b le d = omega arith

-- the bits from one on, which the mask of all bits below it leaves
module _ (m bit : ℕ) (small : bit < 64) where
  abbrev ones : ℕ
  ones = 1 * 2 ^ bit % 2 ^ bits w64 - 1

  all_below : ones ≡ 2 ^ bit - 1
  all_below = omega (arith, shl_exact {a = 1} 1 bit 64 (omega arith) (omega arith))

  fits : ones < 2 ^ 64
  fits = omega (arith, all_below, pow_mono {i = bit} {j = 64} (omega arith))

  pub bit_cleared : (k : ℕ) → k < bit → bit_at (bit_and m (bit_not w64 ones)) k ≡ 0
  bit_cleared k h =
      let one : bit_at ones k ≡ 1 = ap (λ n. bit_at n k) all_below ∙ bit_at_ones bit k h in
      omega (arith, bit_at_and m (bit_not w64 ones) k, bit_at_not w64 ones k fits (omega arith), one)

  pub bit_kept : m < 2 ^ 64 → (k : ℕ) → bit ≤ k → bit_at (bit_and m (bit_not w64 ones)) k ≡ bit_at m k
  bit_kept less k h = elim (cases_lt k 64) [
    | inl lt ↦
        let none : bit_at ones k ≡ 0 = ap (λ n. bit_at n k) all_below ∙ bit_at_ones_above bit k h in
        omega (arith, bit_at_and m (bit_not w64 ones) k, bit_at_not w64 ones k fits lt, none, bit_at-lt m k)
    | inr ge ↦ omega (arith, bit_at_and m (bit_not w64 ones) k, bit_at_above m 64 k less ge)
  ]

-- one bit of a number cleared
module _ (m n bit : ℕ) (kept : (k : ℕ) → k < 64 → (k ≡ bit → ⊥) → bit_at n k ≡ bit_at m k) (mask : ℕ) where
  pub still_part : n < 2 ^ 64 → bit_at m bit ≡ 1 → ((k : ℕ) → bit_at m k ≡ 1 → bit_at mask k ≡ 1) → (k : ℕ) → bit_at n k ≡ 1 → bit_at mask k ≡ 1
  still_part less set part k one =
      elim (cases_eq k bit) [
        | inl e ↦ part k (let P : ℕ → Type 0 = λ i. bit_at m i ≡ 1 in subst P (sym e) set)
        | inr other ↦ part k (sym (kept k (bit_below 64 n k less one) other) ∙ one)
      ]

-- ---- offsets

module _ (Occurs : ℕ → Type 0) where
  -- 16 offsets with no mark
  quiet : (z : List ℕ) (at : ℕ) → mask_l (marks z) ≡ 0 → ((k : ℕ) → k < 16 → Occurs (at + k) → get_or (marks z) k false ≡ true) → (p : ℕ) → at ≤ p → p < at + 16 → Occurs p → ⊥
  quiet z at none covers p from to o =
      let there : p ≡ at + (p - at) = omega arith in
      no_mark (marks z) (p - at) none (covers (p - at) (omega arith) (subst Occurs there o))

  pub quiet_64 : (a b c d : List ℕ) (at : ℕ) → mask_l (marks a) ≡ 0 → mask_l (marks b) ≡ 0 → mask_l (marks c) ≡ 0 → mask_l (marks d) ≡ 0
      → ((k : ℕ) → k < 16 → Occurs (at + k) → get_or (marks a) k false ≡ true)
      → ((k : ℕ) → k < 16 → Occurs (at + 16 + k) → get_or (marks b) k false ≡ true)
      → ((k : ℕ) → k < 16 → Occurs (at + 32 + k) → get_or (marks c) k false ≡ true)
      → ((k : ℕ) → k < 16 → Occurs (at + 48 + k) → get_or (marks d) k false ≡ true)
      → NoneOccurs Occurs at (at + 64)
  quiet_64 a b c d at na nb nc nd ca cb cc cd p from to o =
      elim (cases_lt p (at + 16)) [
        | inl h ↦ quiet a at na ca p from h o
        | inr h ↦ elim (cases_lt p (at + 32)) [
          | inl i ↦ quiet b (at + 16) nb cb p h (omega arith) o
          | inr i ↦ elim (cases_lt p (at + 48)) [
            | inl j ↦ quiet c (at + 32) nc cc p i (omega arith) o
            | inr j ↦ quiet d (at + 48) nd cd p j (omega arith) o
          ]
        ]
      ]

  -- one more offset without
  pub one_more : (from at : ℕ) → NoneOccurs Occurs from at → (Occurs at → ⊥) → NoneOccurs Occurs from (at + 1)
  one_more from at before here p a b o = elim (cases_eq p at) [ inl e ↦ here (subst Occurs e o) | inr d ↦ before p a (omega arith) o ]

  -- a search that goes on at `step`, which may be before where it was
  pub none_joined : (from at end step : ℕ) → step ≤ at → NoneOccurs Occurs from at → NoneOccurs Occurs step end → NoneOccurs Occurs from end
  none_joined from at end step le before after p a b o = elim (cases_lt p at) [ inl h ↦ before p a h o | inr h ↦ after p (omega arith) b o ]

  -- the offsets of a mask, of which some are left
  module _ (base from end mask left : ℕ) (marks : Marks Occurs base from end mask) (covers : (k : ℕ) → bit_at mask k ≡ 1 → Occurs (base + k) → bit_at left k ≡ 1) where
    is_left : (p : ℕ) → from ≤ p → p < end → Occurs p → bit_at left (p - base) ≡ 1
    is_left p a b o =
        let behind = marks.behind in
        let there : p ≡ base + (p - base) = omega (arith, behind) in
        let here = subst Occurs there o in
        covers (p - base) (marks.covers (p - base) (omega (arith, behind)) (omega (arith, behind)) here) here

    -- the offsets before the first that is left
    pub none_before : (lane : ℕ) → base + lane < end → ((k : ℕ) → k < lane → bit_at left k ≡ 0) → NoneOccurs Occurs from (base + lane)
    none_before lane within below p a b o =
        let one = is_left p a (omega arith) o in
        let zero_bit = below (p - base) (omega (arith, marks.behind)) in
        absurd (omega (arith, one, zero_bit))

    -- and all of them, where none is left
    pub none_of_rest : left ≡ 0 → NoneOccurs Occurs from end
    none_of_rest none p a b o =
        let P : ℕ → Type 0 = λ n. bit_at n (p - base) ≡ 1 in
        let one : bit_at 0 (p - base) ≡ 1 = subst P none (is_left p a b o) in
        absurd (omega (arith, one, bit_at-zero (p - base)))

  -- a mask of 16 offsets, from one of them on
  pub marks_from : (base at m n : ℕ) → base ≤ at → ((k : ℕ) → bit_at m k ≡ 1 → k < 16) → ((k : ℕ) → k < 16 → Occurs (base + k) → bit_at m k ≡ 1)
      → ((k : ℕ) → k < at - base → bit_at n k ≡ 0) → ((k : ℕ) → at - base ≤ k → bit_at n k ≡ bit_at m k) → Marks Occurs base at (base + 16) n
  marks_from base at m n behind within covers below kept = record {
    behind = behind;
    within = λ k set. elim (cases_lt k (at - base)) [
      | inl h ↦ absurd (omega (arith, set, below k h))
      | inr h ↦ (omega (arith, behind), omega (arith, within k (sym (kept k h) ∙ set)))
    ];
    covers = λ k a b o. kept k (omega arith) ∙ covers k (omega arith) o;
  }

  -- a mask of 64 offsets
  pub marks_64 : (at m : ℕ) → m < 2 ^ 64 → ((k : ℕ) → k < 64 → Occurs (at + k) → bit_at m k ≡ 1) → Marks Occurs at at (at + 64) m
  marks_64 at m small covers = record {
    behind = omega arith;
    within = λ k set. (omega arith, omega (arith, bit_below 64 m k small set));
    covers = λ k a b o. covers k (omega arith) o;
  }

  -- the bit cleared of an offset at which it does not occur
  pub still_left : (m n bit mask : ℕ) → m < 2 ^ 64 → ((k : ℕ) → k < 64 → (k ≡ bit → ⊥) → bit_at n k ≡ bit_at m k) → (at : ℕ) → (Occurs (at + bit) → ⊥)
      → ((k : ℕ) → bit_at mask k ≡ 1 → Occurs (at + k) → bit_at m k ≡ 1) → (k : ℕ) → bit_at mask k ≡ 1 → Occurs (at + k) → bit_at n k ≡ 1
  still_left m n bit mask small kept at fails covers k set o =
      elim (cases_eq k bit) [
        | inl e ↦ absurd (fails (subst (λ i. Occurs (at + i)) e o))
        | inr other ↦ kept k (bit_below 64 m k small (covers k set o)) other ∙ covers k set o
      ]

  -- a bit of 64, where four vectors have a mark
  pub bit_of_64 : (a b c d : List ℕ) (m at : ℕ) → length a ≡ 16 → length b ≡ 16 → length c ≡ 16 → m ≡ mask_l (marks a ++ (marks b ++ (marks c ++ marks d)))
      → ((k : ℕ) → k < 16 → Occurs (at + k) → get_or (marks a) k false ≡ true)
      → ((k : ℕ) → k < 16 → Occurs (at + 16 + k) → get_or (marks b) k false ≡ true)
      → ((k : ℕ) → k < 16 → Occurs (at + 32 + k) → get_or (marks c) k false ≡ true)
      → ((k : ℕ) → k < 16 → Occurs (at + 48 + k) → get_or (marks d) k false ≡ true)
      → (k : ℕ) → k < 64 → Occurs (at + k) → bit_at m k ≡ 1
  bit_of_64 a b c d m at la lb lc e ca cb cc cd k lt o = bit_of_mark (marks a ++ (marks b ++ (marks c ++ marks d))) m k e (
      elim (cases_lt k 16) [
        | inl h ↦ get_or_append_left (marks a) (marks b ++ (marks c ++ marks d)) false k (omega (arith, length_marks a)) ∙ ca k h o
        | inr g ↦ get_or-append_right (marks a) (marks b ++ (marks c ++ marks d)) 16 k false (length_marks a ∙ la) g ∙ elim (cases_lt k 32) [
          | inl h ↦ get_or_append_left (marks b) (marks c ++ marks d) false (k - 16) (omega (arith, length_marks b)) ∙ cb (k - 16) (omega arith) (there 16 (omega arith))
          | inr i ↦ get_or-append_right (marks b) (marks c ++ marks d) 16 (k - 16) false (length_marks b ∙ lb) (omega arith) ∙ elim (cases_lt k 48) [
            | inl h ↦ get_or_append_left (marks c) (marks d) false (k - 16 - 16) (omega (arith, length_marks c)) ∙ same (marks c) (k - 16 - 16) (k - 32) (omega arith) ∙ cc (k - 32) (omega arith) (there 32 (omega arith))
            | inr j ↦ get_or-append_right (marks c) (marks d) 16 (k - 16 - 16) false (length_marks c ∙ lc) (omega arith) ∙ same (marks d) (k - 16 - 16 - 16) (k - 48) (omega arith) ∙ cd (k - 48) (omega arith) (there 48 (omega arith))
          ]
        ]
      ])
    where
      same : (l : List Bool) (i j : ℕ) → i ≡ j → get_or l i false ≡ get_or l j false
      same l i j = ap (λ m. get_or l m false)

      there : (n : ℕ) → n ≤ k → Occurs (at + n + (k - n))
      there n le = let back : at + k ≡ at + n + (k - n) = omega arith in subst Occurs back o
