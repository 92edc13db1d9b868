-- Bits of sets of ASCII.
use Rattle.std.proofs.Common.{◌≡◌, ℕ, ◌+◌, ◌-◌, ◌*◌, ◌/◌, ◌%◌, ◌^◌, ◌<◌, ◌≤◌, ◌⊎◌, inl, inr, sym, ap, ◌∙◌, arith}
use lib.Pow.{pow_mono}
use Rattle.std.specs.Int.{bit_at, bit_not, w128}
use Rattle.std.specs.Prelude.{bit_or}
use Rattle.std.proofs.lemmas.Bool.{cases_eq, cases_lt}
use Rattle.std.proofs.lemmas.Nat.{one_shl, pow_pos}
use Rattle.std.proofs.lemmas.Nat.Bits.{bit_at-lt, bit_at_mask_above, bit_at_mask_below, bit_at_mask_inside, bit_at_not, bit_at_or, ones_shr}

pub either_bit : (a b i : ℕ) → (bit_at a i ≡ 1) ⊎ (bit_at b i ≡ 1) → bit_at (bit_or a b) i ≡ 1
either_bit a b i (inl e) = omega (arith, bit_at_or a b i, bit_at-lt b i, e)
either_bit a b i (inr e) = omega (arith, bit_at_or a b i, bit_at-lt a i, e)

pub bit_of_either : (a b i : ℕ) → bit_at (bit_or a b) i ≡ 1 → (bit_at a i ≡ 1) ⊎ (bit_at b i ≡ 1)
bit_of_either a b i e = elim (cases_eq (bit_at a i) 1) [
  | inl is ↦ inl is
  | inr other ↦ inr (omega (arith, bit_at_or a b i, bit_at-lt a i, bit_at-lt b i, other, e))
]

pub bit_of_others : (bits i : ℕ) → bits < 2 ^ 128 → i < 128 → (bit_at bits i ≡ 1 → ⊥) → bit_at (bit_not w128 bits) i ≡ 1
bit_of_others bits i small within other = elim (cases_eq (bit_at bits i) 1) [
  | inl is ↦ absurd (other is)
  | inr clear ↦ omega (arith, bit_at_not w128 bits i small within, bit_at-lt bits i, clear)
]

pub bit_of_both : (bits i : ℕ) → bits < 2 ^ 128 → i < 128 → bit_at (bit_not w128 bits) i ≡ 1 → bit_at bits i ≡ 1 → ⊥
bit_of_both bits i small within e is = absurd (omega (arith, bit_at_not w128 bits i small within, e, is))

-- all bits shifted to the right but for those up to `last`, less those before `first`
module _ (first last : ℕ) (ordered : first ≤ last) (within : last ≤ 127) where
  up_to_last : (2 ^ 128 - 1) / 2 ^ (127 - last) ≡ 2 ^ (last + 1) - 1
  up_to_last = let left : 128 - (127 - last) ≡ last + 1 = omega arith in ones_shr 128 (127 - last) (omega arith) ∙ ap (λ n. 2 ^ n - 1) left

  before_first : 1 * 2 ^ first % 2 ^ 128 ≡ 2 ^ first
  before_first = one_shl first 128 (omega arith)

  grows : 2 ^ first ≤ 2 ^ (last + 1)
  grows = pow_mono {i = first} {j = last + 1} (omega arith)

  pub bits_fit : 1 * 2 ^ first % 2 ^ 128 - 1 ≤ (2 ^ 128 - 1) / 2 ^ (127 - last)
  bits_fit = omega (arith, up_to_last, before_first, grows, pow_pos first)

  bits_are : (2 ^ 128 - 1) / 2 ^ (127 - last) - (1 * 2 ^ first % 2 ^ 128 - 1) ≡ 2 ^ (last + 1) - 2 ^ first
  bits_are = omega (arith, up_to_last, before_first, grows, pow_pos first)

  pub bit_between : (i : ℕ) → first ≤ i → i ≤ last → bit_at ((2 ^ 128 - 1) / 2 ^ (127 - last) - (1 * 2 ^ first % 2 ^ 128 - 1)) i ≡ 1
  bit_between i from to = ap (λ n. bit_at n i) bits_are ∙ bit_at_mask_inside first (last + 1) i from (omega (arith, to))

  pub between_bits : (i : ℕ) → bit_at ((2 ^ 128 - 1) / 2 ^ (127 - last) - (1 * 2 ^ first % 2 ^ 128 - 1)) i ≡ 1 → (first ≤ i) × (i ≤ last)
  between_bits i e =
      let bit : bit_at (2 ^ (last + 1) - 2 ^ first) i ≡ 1 = sym (ap (λ n. bit_at n i) bits_are) ∙ e in (
        elim (cases_lt i first) [
          | inl less ↦ absurd (omega (arith, bit, bit_at_mask_below first (last + 1) i less))
          | inr from ↦ from
        ],
        elim (cases_lt last i) [
          | inl more ↦ absurd (omega (arith, bit, bit_at_mask_above first (last + 1) i (omega (arith, more))))
          | inr to ↦ to
        ],
      )
