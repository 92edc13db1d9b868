-- What an iterator over names has passed over.
use Rattle.std.proofs.Common.{◌≡◌, ℕ, ◌+◌, ◌≤◌, Bool, true, false, not, cond, List, [], ◌∷◌, ◌++◌, length, map, Option, Some, None, slice_index_or, sym, ap, ◌∙◌, subst, arith, lt-ltb, le-ltb}
use Rattle.std.specs.Prelude.{nat_lt}
use Rattle.std.specs.List.{prefix_len}
use Rattle.bites_spec.specs.Expansion.{has_name, index_in}
use Rattle.std.proofs.lemmas.List.{get_or_past, append-nil, length-map}
use Rattle.std.specs.Iterator.{Yields, YieldsFirstBy}

-- the list is what came followed by what is left
pub passed : {A B : Type 0} → (v : A → B) (s : List B) (xs : List A) (t : List B) → Yields (YieldsFirstBy v (λ l. l)) s xs t → s ≡ map v xs ++ t
passed v s [] t e = e
passed v s (x ∷ xs) t h = h.1 ∙ ap (λ l. v x ∷ l) (passed v h.0 xs t h.2)

-- if no item came, the list has no such place
pub none_there : {A B : Type 0} → (v : A → Option B) (s : List (Option B)) (xs : List A) (t : List (Option B)) (n : ℕ) →
    Yields (YieldsFirstBy v (λ l. l)) s xs t → t ≡ [] → length xs ≤ n → slice_index_or s n None ≡ None
none_there v s xs t n yields ended few =
    let all : s ≡ map v xs = passed v s xs t yields ∙ ap (λ l. map v xs ++ l) ended ∙ append-nil (map v xs) in
    ap (λ l. slice_index_or l n None) all ∙ get_or_past (map v xs) n None (subst (λ k. k ≤ n) (sym (length-map xs v)) few)

-- The number of the first of the names that is this one.
module _ (word : List ℕ) where
  abbrev pub is_other : Option (List ℕ) → Bool
  is_other name = not (has_name word name)

  by_len : (all : List (Option (List ℕ))) (n : ℕ) → prefix_len is_other all ≡ n →
      index_in all word ≡ cond (nat_lt n (length all)) (Some n) None
  by_len all n e = ap (λ (k : ℕ). cond (nat_lt k (length all)) (Some k) None) e

  -- the name is the next one
  pub named_here : (all rest : List (Option (List ℕ))) (name : Option (List ℕ)) (n : ℕ) →
      n + prefix_len is_other (name ∷ rest) ≡ prefix_len is_other all → n + length (name ∷ rest) ≡ length all →
      has_name word name ≡ true → Some n ≡ index_in all word
  named_here all rest name n before len named =
      let none = ap (λ (b : Bool). n + cond (not b) (1 + prefix_len is_other rest) 0) named in
      let at : prefix_len is_other all ≡ n = omega (arith, before, none) in
      sym (by_len all n at ∙ ap (λ (b : Bool). cond b (Some n) None) (lt-ltb n (length all) (omega (arith, len))))

  -- no name is left
  pub named_nowhere : (all : List (Option (List ℕ))) (n : ℕ) → n ≡ prefix_len is_other all → n ≡ length all → None ≡ index_in all word
  named_nowhere all n before len =
      sym (by_len all n (sym before) ∙ ap (λ (b : Bool). cond b (Some n) None) (le-ltb n (length all) (omega (arith, len))))

  -- the next name is another one
  pub named_later : (rest : List (Option (List ℕ))) (name : Option (List ℕ)) (n k : ℕ) →
      n + prefix_len is_other (name ∷ rest) ≡ k → has_name word name ≡ false → (n + 1) + prefix_len is_other rest ≡ k
  named_later rest name n k before other =
      let one = ap (λ (b : Bool). n + cond (not b) (1 + prefix_len is_other rest) 0) other in omega (arith, before, one)
