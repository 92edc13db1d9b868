-- Groups are put into the first places of a slice, one after another.
use Rattle.std.proofs.Common.{◌≡◌, ℕ, ◌+◌, ◌<◌, List, [], ◌∷◌, ◌++◌, length, drop, slice_set, sym, ap, ap₂, ◌∙◌, arith}
use Rattle.std.proofs.lemmas.List.{take_more_set, drop-drop, drop-set-lt}
use Rattle.std.proofs.lemmas.List.FromFn.{map-range_with_len_more}
use Rattle.std.specs.Prelude.{Option}
use Rattle.bites_spec.specs.Slots.{group_in}
use Rattle.bites_c.specs.Put.{HasPrefix, span_for_c}
use Rattle.bites_c.specs.declared.span.BitesSpan.{BitesSpan}

drop_alike : {X : Type 0} → (xs ys : List X) (k : ℕ) → drop k xs ≡ drop k ys → drop (k + 1) xs ≡ drop (k + 1) ys
drop_alike xs ys k e = sym (drop-drop 1 k xs) ∙ ap (drop 1) e ∙ drop-drop 1 k ys

-- one more group is put after the others
pub one_put :
    (slots : List (Option ℕ)) (k : ℕ) (old new : List BitesSpan) (s : BitesSpan) →
    k < length new → s ≡ span_for_c (group_in slots k) → HasPrefix slots k old new → HasPrefix slots (k + 1) old (slice_set new k s)
one_put slots k old new s less is h = record {
  front =
      take_more_set new k s less
      ∙ ap₂ (λ xs x. xs ++ x ∷ []) h.front is
      ∙ sym (map-range_with_len_more (λ i. span_for_c (group_in slots i)) 0 k k (omega (arith)));
  rest = drop-set-lt (k + 1) new k s (omega (arith)) ∙ drop_alike new old k h.rest;
}
