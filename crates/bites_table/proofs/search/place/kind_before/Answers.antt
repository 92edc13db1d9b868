use Rattle.bites_table.proofs.Library.{common_steps, slice_index_or, slice_get-get_or, before, ◌≡◌, ℕ, zero, suc, ◌-◌, ◌≤◌, ◌<◌, List, length, Some, ap, ◌∙◌, arith}
use Rattle.bites_table.proofs.search.place.kind_before.Goals as goal

before_is : (hay : List ℕ) (i : ℕ) → 0 < i → i ≤ length hay → before hay i ≡ Some (slice_index_or hay (i - 1) 0)
before_is hay zero some le = absurd (omega arith)
before_is hay (suc i) some le = slice_get-get_or hay i 0 (omega arith) ∙ ap (λ k. Some (slice_index_or hay k 0)) (one_less i)
  where
    one_less : (i : ℕ) → i ≡ suc i - 1
    one_less i = omega arith

pub returns : goal.returns
returns c = grind (arith, common_steps, before_is)
