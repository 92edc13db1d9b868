-- Bytes in buckets: what is put there, and what the look-ups of three bytes say of a literal.
use Rattle.std.proofs.Common.{◌≡◌, ℕ, ◌+◌, ◌/◌, ◌<◌, ◌≤◌, eqb, Bool, true, false, ◌||◌, List, map, length, get_or, bit_and, bit_or, refl, sym, ap, ◌∙◌, subst, arith, inl, inr, ◌⊎◌, eqb-true, min}
use Rattle.std.proofs.lemmas.Bool.{agree_below_at, cases_eq, ne_eqb}
use Rattle.std.proofs.lemmas.List.{get_or-map, length-map}
use Rattle.std.proofs.lemmas.Nat.Bits.{bit_at-zero, bit_at-lt, bit_at_and}
use Rattle.std.proofs.lemmas.Simd.{length-chunk, get_or-chunk, get_or-zip2, length-zip2}
use Rattle.std.proofs.Math.Nat.{min-le_left, min-le_right, le-min}
use Rattle.std.specs.Char.{to_ascii_lowercase}
use Rattle.std.specs.Int.{bit_at}
use Rattle.std.specs.Int.Bits.{bit_xor}
use lib.Lanes.{chunk, zip2}
use Rattle.bites_scan.specs.Buckets.{buckets_of, StaysIn, MayStand, HoldsPlace}
use Rattle.bites_scan.specs.declared.buckets.Buckets.{Buckets}
use Rattle.bites_scan.specs.Lanes.{is_marked, marks}
use Rattle.bites_scan.specs.Literal.{Needle, folding}
use Rattle.bites_scan.proofs.LiteralLemmas.{fold_bit}

-- ---- one bit of two numbers

pub both_bits : (m n b : ℕ) → bit_at m b ≡ 1 → bit_at n b ≡ 1 → bit_at (bit_and m n) b ≡ 1
both_bits m n b e f =
    let one : 1 ≤ min (bit_at m b) (bit_at n b) = le-min {k = 1} {a = bit_at m b} {b = bit_at n b} (omega arith) (omega arith) in
    omega (arith, bit_at_and m n b, min-le_left (bit_at m b) (bit_at n b))

first_bit : (m n b : ℕ) → bit_at (bit_and m n) b ≡ 1 → bit_at m b ≡ 1
first_bit m n b e = omega (arith, bit_at_and m n b, min-le_left (bit_at m b) (bit_at n b), bit_at-lt m b)

second_bit : (m n b : ℕ) → bit_at (bit_and m n) b ≡ 1 → bit_at n b ≡ 1
second_bit m n b e = omega (arith, bit_at_and m n b, min-le_right (bit_at m b) (bit_at n b), bit_at-lt n b)

-- ---- letters in both cases

turned_twice : (x : ℕ) → x < 256 → bit_xor (bit_xor x 32) 32 ≡ x
turned_twice x h = eqb-true _ _ (agree_below_at (λ x. eqb (bit_xor (bit_xor x 32) 32) x) (λ _. true) 256 x refl h)

pub low_of_turned : (x : ℕ) → x < 256 → bit_and (bit_xor x 32) 15 ≡ bit_and x 15
low_of_turned x h = eqb-true _ _ (agree_below_at (λ x. eqb (bit_and (bit_xor x 32) 15) (bit_and x 15)) (λ _. true) 256 x refl h)

-- a byte has the bit of small letters, or has it once that is turned
with_bit_32 : (x : ℕ) → x < 256 → (x ≡ bit_or x 32) ⊎ (bit_xor x 32 ≡ bit_or x 32)
with_bit_32 x h =
    go (eqb x (bit_or x 32)) (eqb (bit_xor x 32) (bit_or x 32)) refl refl
    (agree_below_at (λ x. eqb x (bit_or x 32) || eqb (bit_xor x 32) (bit_or x 32)) (λ _. true) 256 x refl h)
  where
    go : (a b : Bool) → eqb x (bit_or x 32) ≡ a → eqb (bit_xor x 32) (bit_or x 32) ≡ b → (eqb x (bit_or x 32) || eqb (bit_xor x 32) (bit_or x 32)) ≡ true → (x ≡ bit_or x 32) ⊎ (bit_xor x 32 ≡ bit_or x 32)
    go true b p q e = inl (eqb-true _ _ p)
    go false true p q e = inr (eqb-true _ _ q)
    go false false p q e = absurd (cc)

-- bytes that fold to one are equal, or the same letter in two cases
same_letter : (x y : ℕ) → x < 256 → y < 256 → to_ascii_lowercase x ≡ to_ascii_lowercase y → (x ≡ y) ⊎ (x ≡ bit_xor y 32)
same_letter x y hx hy e =
    let same : bit_or x 32 ≡ bit_or y 32 = fold_bit x hx ∙ ap (λ z. bit_or z 32) e ∙ sym (fold_bit y hy) in
    elim (with_bit_32 x hx) [
      | inl p ↦ elim (with_bit_32 y hy) [ inl q ↦ inl (p ∙ same ∙ sym q) | inr q ↦ inr (p ∙ same ∙ sym q) ]
      | inr p ↦ elim (with_bit_32 y hy) [
        | inl q ↦ inr (sym (turned_twice x hx) ∙ ap (λ z. bit_xor z 32) (p ∙ same ∙ sym q))
        | inr q ↦ inl (sym (turned_twice x hx) ∙ ap (λ z. bit_xor z 32) (p ∙ same ∙ sym q) ∙ turned_twice y hy)
      ]
    ]

-- ---- what is put into a bucket

module _ (low high : List ℕ) (b : ℕ) where
  abbrev Has : ℕ → Type 0
  Has x = bit_at (bit_and (get_or low (bit_and x 15) 0) (get_or high (x / 16) 0)) b ≡ 1

  pub has : (x : ℕ) → bit_at (get_or low (bit_and x 15) 0) b ≡ 1 → bit_at (get_or high (x / 16) 0) b ≡ 1 → Has x
  has x e f = both_bits (get_or low (bit_and x 15) 0) (get_or high (x / 16) 0) b e f

  module _ (n : Needle) (place y : ℕ) (within : place < length n.bytes) (byte : y ≡ get_or n.bytes place 0) (small : y < 256)
      (l : bit_at (get_or low (bit_and y 15) 0) b ≡ 1) (h : bit_at (get_or high (y / 16) 0) b ≡ 1) where
    -- where case counts
    pub has_exact : n.caseless ≡ false → (x : ℕ) → x < 256 → MayStand n place x → Has x
    has_exact exact x hx may =
        let same : x ≡ y = ap (λ c. folding c x) (sym exact) ∙ may within ∙ ap (λ c. folding c (get_or n.bytes place 0)) exact ∙ sym byte in
        subst Has (sym same) (has y l h)

    -- where it doesn't, with the byte in the other case
    pub has_caseless : n.caseless ≡ true → bit_at (get_or high (bit_xor y 32 / 16) 0) b ≡ 1 → (x : ℕ) → x < 256 → MayStand n place x → Has x
    has_caseless caseless other x hx may =
        let same : to_ascii_lowercase x ≡ to_ascii_lowercase y = ap (λ c. folding c x) (sym caseless) ∙ may within ∙ ap (λ c. folding c (get_or n.bytes place 0)) caseless ∙ ap to_ascii_lowercase (sym byte) in
        elim (same_letter x y hx small same) [
          | inl e ↦ subst Has (sym e) (has y l h)
          | inr e ↦ subst Has (sym e) (has (bit_xor y 32) (ap (λ k. bit_at (get_or low k 0) b) (low_of_turned y small) ∙ l) other)
        ]

pub stays_in : (t u : Buckets) → ((k b : ℕ) → bit_at (get_or t.low k 0) b ≡ 1 → bit_at (get_or u.low k 0) b ≡ 1)
    → ((k b : ℕ) → bit_at (get_or t.high k 0) b ≡ 1 → bit_at (get_or u.high k 0) b ≡ 1) → StaysIn t u
stays_in t u l h b x lt e =
    has u.low u.high b x
    (l (bit_and x 15) b (first_bit (get_or t.low (bit_and x 15) 0) (get_or t.high (x / 16) 0) b e))
    (h (x / 16) b (second_bit (get_or t.low (bit_and x 15) 0) (get_or t.high (x / 16) 0) b e))

pub holds_still : (t u : Buckets) (b : ℕ) (n : Needle) (place : ℕ) → StaysIn t u → HoldsPlace t b n place → HoldsPlace u b n place
holds_still t u b n place stays holds x lt may = stays b x lt (holds x lt may)

-- ---- three look-ups

-- a lane of the look-ups of one vector
pub lane_of : (t : Buckets) (haystack v z : List ℕ) (at k : ℕ) → at + 16 ≤ length haystack → k < 16 → v ≡ chunk at 16 haystack → z ≡ map (buckets_of t) v
    → (length z ≡ 16) × (get_or z k 0 ≡ buckets_of t (get_or haystack (at + k) 0))
lane_of t haystack v z at k room lt loaded e =
    let long : length v ≡ 16 = ap length loaded ∙ length-chunk at 16 haystack room in (
      ap length e ∙ length-map v (buckets_of t) ∙ long,
      ap (λ l. get_or l k 0) e ∙ get_or-map (buckets_of t) v k 0 0 (omega arith) ∙ ap (buckets_of t) (ap (λ l. get_or l k 0) loaded ∙ get_or-chunk at 16 haystack k 0 lt),
    )

marked_by : (x b : ℕ) → bit_at x b ≡ 1 → is_marked x ≡ true
marked_by x b e =
    elim (cases_eq x 0) [
      | inl z ↦ absurd (omega (arith, ap (λ n. bit_at n b) z, bit_at-zero b, e))
      | inr d ↦ ap (λ t. elim t [ true ↦ false | false ↦ true ]) (ne_eqb x 0 d)
    ]

-- a lane that has one bit in three vectors
pub marked_in_all : (u v w : List ℕ) (k b : ℕ) → length u ≡ 16 → length v ≡ 16 → length w ≡ 16 → k < 16 → bit_at (get_or u k 0) b ≡ 1 → bit_at (get_or v k 0) b ≡ 1 → bit_at (get_or w k 0) b ≡ 1
    → get_or (marks (zip2 bit_and (zip2 bit_and u v) w)) k false ≡ true
marked_in_all u v w k b lu lv lw lt eu ev ew =
    let luv : length (zip2 bit_and u v) ≡ 16 = length-zip2 bit_and u v (lu ∙ sym lv) ∙ lu in
    let luvw : length (zip2 bit_and (zip2 bit_and u v) w) ≡ 16 = length-zip2 bit_and (zip2 bit_and u v) w (luv ∙ sym lw) ∙ luv in
    let uv : get_or (zip2 bit_and u v) k 0 ≡ bit_and (get_or u k 0) (get_or v k 0) = get_or-zip2 bit_and u v k 0 0 0 (omega arith) (omega arith) in
    let uvw : get_or (zip2 bit_and (zip2 bit_and u v) w) k 0 ≡ bit_and (get_or (zip2 bit_and u v) k 0) (get_or w k 0) = get_or-zip2 bit_and (zip2 bit_and u v) w k 0 0 0 (omega arith) (omega arith) in
    get_or-map is_marked (zip2 bit_and (zip2 bit_and u v) w) k 0 false (omega arith)
    ∙ marked_by _ b (ap (λ n. bit_at n b) uvw ∙ both_bits _ _ b (ap (λ n. bit_at n b) uv ∙ both_bits _ _ b eu ev) ew)
