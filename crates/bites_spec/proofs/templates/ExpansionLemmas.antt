-- The number that a search of the names finds is that of the first group with the name.
use Rattle.std.proofs.lemmas.Grind.{common_steps}
use Rattle.std.proofs.Common.{◌≡◌, ◌≢◌, ℕ, zero, suc, ◌+◌, ◌<◌, Bool, true, not, cond, List, [], ◌∷◌, length, get_or, Option, Some, None, IfSome, IfNone, refl, sym, ap, ◌∙◌, true≢false, arith, lt-ltb, le-ltb}
use Rattle.std.specs.Prelude.{nat_lt}
use Rattle.std.specs.List.{prefix_len}
use Rattle.std.proofs.lemmas.Slice.Eq.{bytes_eq-Decides}
use Rattle.bites_spec.specs.Expansion.{has_name, index_in}

module _ (word : List ℕ) where
  -- the name is another, or there is none
  abbrev is_other : Option (List ℕ) → Bool
  is_other name = not (has_name word name)

  named_is : (name : Option (List ℕ)) → has_name word name ≡ true → name ≡ Some word
  named_is None e = absurd (true≢false (sym e))
  named_is (Some n) e = ap Some ((bytes_eq-Decides n word).0 e)

  is_named : (name : Option (List ℕ)) → name ≡ Some word → has_name word name ≡ true
  is_named None e = let never : None ≡ Some word = e in cc
  is_named (Some n) e = grind (arith, common_steps, bytes_eq-Decides)

  other_is : (name : Option (List ℕ)) → name ≢ Some word → is_other name ≡ true
  other_is name ne = grind (arith, common_steps, named_is)

  -- the first i names are others if the first equal name is at i
  first_len : (names : List (Option (List ℕ))) (i : ℕ) → get_or names i None ≡ Some word → ((j : ℕ) → j < i → get_or names j None ≢ Some word) →
      (prefix_len is_other names ≡ i) × (i < length names)
  first_len [] i here before = let never : None ≡ Some word = here in cc
  first_len (name ∷ names) zero here before =
      (ap (λ (b : Bool). cond (not b) (1 + prefix_len is_other names) 0) (is_named name here), omega arith)
  first_len (name ∷ names) (suc i) here before =
      let later = first_len names i here (λ j lt. before (suc j) (omega (arith, lt))) in
      (ap (λ (b : Bool). cond b (1 + prefix_len is_other names) 0) (other_is name (before 0 (omega arith))) ∙ next later.0, omega (arith, later.1))
    where
      next : prefix_len is_other names ≡ i → 1 + prefix_len is_other names ≡ suc i
      next e = omega (arith, e)

  no_len : (names : List (Option (List ℕ))) → ((j : ℕ) → get_or names j None ≢ Some word) → prefix_len is_other names ≡ length names
  no_len [] none = refl
  no_len (name ∷ names) none =
      ap (λ (b : Bool). cond b (1 + prefix_len is_other names) 0) (other_is name (none 0)) ∙ next (no_len names (λ j. none (suc j)))
    where
      next : prefix_len is_other names ≡ length names → 1 + prefix_len is_other names ≡ suc (length names)
      next e = omega (arith, e)

-- what a search of the names returns is `index_in`
pub index_is : (names : List (Option (List ℕ))) (word : List ℕ) (o : Option ℕ) →
    IfSome o (λ i. get_or names i None ≡ Some word) → IfSome o (λ i. (j : ℕ) → j < i → get_or names j None ≢ Some word) →
    IfNone o ((j : ℕ) → get_or names j None ≢ Some word) → o ≡ index_in names word
index_is names word (Some i) found first absent =
    let is = first_len word names i found first in
    sym (ap (λ (k : ℕ). cond (nat_lt k (length names)) (Some k) None) is.0 ∙ ap (λ (b : Bool). cond b (Some i) None) (lt-ltb i (length names) is.1))
index_is names word None found first absent =
    sym (ap (λ (k : ℕ). cond (nat_lt k (length names)) (Some k) None) (no_len word names absent)
    ∙ ap (λ (b : Bool). cond b (Some (length names)) None) (le-ltb (length names) (length names) (omega arith)))
