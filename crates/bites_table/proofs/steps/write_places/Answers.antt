use Rattle.bites_table.proofs.Library.{common_steps, ◌≡◌, ◌≢◌, ℕ, ◌*◌, ◌%◌, ◌^◌, ◌<◌, ◌≤◌, true, cond, List, length, get_or, bit_and, Option, Some, None, sym, ap, ◌∙◌, ⊎_elim, arith, slice_set, bit_at, bit_not, trailing_zeros, cases_lt, cases_eq, length-set, get_or-set_same, get_or-set_other, and_le_l, bit_at-trailing_zeros, bit_at_clear_same, bit_at_clear_other, bit_at_above, has_bit}
use Rattle.std.proofs.Common.{w64}
use mir.Val.{bits}
use Rattle.bites_table.proofs.steps.write_places.Goals as goal

-- the place of the lowest bit, and the others
abbrev lowest : ℕ → ℕ
lowest n = trailing_zeros w64 n

abbrev others : ℕ → ℕ
others n = bit_and n (bit_not w64 (1 * 2 ^ lowest n % 2 ^ bits w64))

others-within : (n : ℕ) → others n ≤ n
others-within n = and_le_l n (bit_not w64 (1 * 2 ^ lowest n % 2 ^ bits w64))

module _ (n : ℕ) (some : 0 < n) (fits : n < 2 ^ bits w64) where
  is_set : bit_at n (lowest n) ≡ 1
  is_set = (bit_at-trailing_zeros w64 n some fits).1

  is_cleared : bit_at (others n) (lowest n) ≡ 0
  is_cleared = bit_at_clear_same w64 n (lowest n) (bit_at-trailing_zeros w64 n some fits).0

  is_kept : (k : ℕ) → k ≢ lowest n → bit_at (others n) k ≡ bit_at n k
  is_kept k ne =
      ⊎_elim
      (λ (lt : k < bits w64). bit_at_clear_other w64 n (lowest n) (bit_at-trailing_zeros w64 n some fits).0 k lt ne)
      (λ (le : bits w64 ≤ k). bit_at_above (others n) (bits w64) k (let within = others-within n in omega arith) le ∙ sym (bit_at_above n (bits w64) k fits le))
      (cases_lt k (bits w64))

  fewer : others n < n
  fewer = grind (arith, common_steps, others-within, is_cleared, is_set, cases_lt)

  had : (k : ℕ) → has_bit (others n) k ≡ true → has_bit n k ≡ true
  had k is = grind (arith, common_steps, is_set, is_kept, cases_eq)

  written : (writes place : ℕ) (old slots : List (Option ℕ)) → ((k : ℕ) → has_bit n k ≡ true → has_bit writes k ≡ true) → (k : ℕ) → k < length slots →
      get_or slots k None ≡ cond (has_bit n k) (get_or old k None) (cond (has_bit writes k) (Some place) (get_or old k None)) →
      get_or (slice_set slots (lowest n) (Some place)) k None ≡ cond (has_bit (others n) k) (get_or old k None) (cond (has_bit writes k) (Some place) (get_or old k None))
  written writes place old slots of k lt before = grind (arith, common_steps, get_or-set_same, is_cleared, is_set, get_or-set_other, is_kept, cases_eq)

pub left-smaller : goal.left-smaller
left-smaller c = fewer c.left.left (omega arith) c.left.auto.left-fits.fits

pub left-preserved : goal.left-preserved
left-preserved c =
    let n = c.left.left in
    let some : 0 < n = omega arith in
    let fits = c.left.auto.left-fits.fits in
    let slots = c.left.slots in
    let set = c.write_place.ensures in
    let len = ap length set ∙ length-set slots (lowest n) (Some c.args.place) in
    record {
      len = len ∙ c.left.invariant.len;
      of = λ k is. c.left.invariant.of k (had n some fits k is);
      slots = λ k lt. ap (λ (l : List (Option ℕ)). get_or l k None) set
          ∙ written n some fits c.args.writes c.args.place c.args.slots.now slots c.left.invariant.of k (omega arith) (c.left.invariant.slots k (omega arith));
    }
