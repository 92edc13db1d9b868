-- Cells in which one bit more is set.
use Rattle.std.proofs.Common.{◌≡◌, ℕ, ◌*◌, ◌%◌, ◌^◌, ◌<◌, List, length, get_or, bit_or, ap, ◌∙◌, sym, inl, inr}
use Rattle.std.proofs.lemmas.Bool.{cases_eq}
use Rattle.std.proofs.lemmas.List.{get_or-set_same, get_or-set_other}
use Rattle.std.proofs.lemmas.Nat.Bits.{bit_at_set_same, bit_at_set_other}
use Rattle.std.proofs.Math.ListN.{set}
use Rattle.std.specs.Int.{bit_at}
use mir.Syntax.{Width}
use mir.Val.{bits}

module _ (w : Width) (bit : ℕ) (small : bit < bits w) where
  abbrev with_bit : ℕ → ℕ
  with_bit n = bit_or n (1 * 2 ^ bit % 2 ^ bits w)

  -- a bit that was set is still set
  pub still_set : (n b : ℕ) → bit_at n b ≡ 1 → bit_at (with_bit n) b ≡ 1
  still_set n b e =
      elim (cases_eq b bit) [
        | inl same ↦ ap (λ i. bit_at (with_bit n) i) same ∙ bit_at_set_same w n bit small
        | inr other ↦ bit_at_set_other w n bit small b other ∙ e
      ]

  module _ (cells : List ℕ) (at : ℕ) (within : at < length cells) where
    pub cell_set : bit_at (get_or (set cells at (with_bit (get_or cells at 0))) at 0) bit ≡ 1
    cell_set = ap (λ n. bit_at n bit) (get_or-set_same cells at (with_bit (get_or cells at 0)) 0 within) ∙ bit_at_set_same w (get_or cells at 0) bit small

    pub cells_still_set : (k b : ℕ) → bit_at (get_or cells k 0) b ≡ 1 → bit_at (get_or (set cells at (with_bit (get_or cells at 0))) k 0) b ≡ 1
    cells_still_set k b e =
        elim (cases_eq k at) [
          | inl same ↦ ap (λ i. bit_at (get_or (set cells at (with_bit (get_or cells at 0))) i 0) b) same
              ∙ ap (λ n. bit_at n b) (get_or-set_same cells at (with_bit (get_or cells at 0)) 0 within)
              ∙ still_set (get_or cells at 0) b (ap (λ i. bit_at (get_or cells i 0) b) (sym same) ∙ e)
          | inr other ↦ ap (λ n. bit_at n b) (get_or-set_other cells at k (with_bit (get_or cells at 0)) 0 other) ∙ e
        ]
