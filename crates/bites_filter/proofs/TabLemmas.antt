-- The groups of a match, written one after another.
use Rattle.std.proofs.Common.{◌≡◌, ℕ, ◌+◌, ◌-◌, ◌<◌, ◌≤◌, suc, List, ◌++◌, Option, option_map, sym, ap, ◌∙◌, arith, append_assoc}
use Rattle.std.proofs.lemmas.List.{append-nil}
use Rattle.bites_spec.specs.Captured.{excerpt}
use Rattle.bites_spec.specs.Slots.{group_in}
use Rattle.bites_filter.specs.Tabs.{tabbed, groups_from}

module _ (text : List ℕ) (slots : List (Option ℕ)) (k len : ℕ) where
  -- a group, and those after it
  pub group_more : k < len → (all written : List ℕ) → all ≡ written ++ groups_from text slots k (len - k) →
      all ≡ (written ++ tabbed (option_map (excerpt text) (group_in slots k))) ++ groups_from text slots (k + 1) (len - (k + 1))
  unfolding groups_from
  group_more lt all written e =
      let count : len - k ≡ suc (len - (k + 1)) = omega (arith, lt) in
      e ∙ ap (λ n. written ++ groups_from text slots k n) count
      ∙ sym (append_assoc written (tabbed (option_map (excerpt text) (group_in slots k))) (groups_from text slots (k + 1) (len - (k + 1))))

  pub no_group_more : len ≤ k → (all written : List ℕ) → all ≡ written ++ groups_from text slots k (len - k) → all ≡ written
  unfolding groups_from
  no_group_more le all written e =
      let count : len - k ≡ 0 = omega (arith, le) in
      e ∙ ap (λ n. written ++ groups_from text slots k n) count ∙ append-nil written
