-- Whether a line of an input is selected, as lines are read one after another.
use Rattle.std.proofs.Common.{ℕ, Bool, true, false, not, List, Option, Some, None, IfSome, refl, sym, subst, inl, inr}
use Rattle.bites_spec.specs.Tree.{Tree}
use Rattle.bites_filter.specs.Lines.{lines_of, ReadsLine}
use Rattle.clients.specs.Selected.{IsAskedFor, IsAnySelected}

module _ (t : Tree) (invert : Bool) where
  -- what holds of the lines that are left holds of all: none that was read is selected
  abbrev pub IsNoneSoFar : Option (List ℕ) → Option (List ℕ) → Type 0
  IsNoneSoFar None left = Unit {0}
  IsNoneSoFar (Some xs) None = ⊥
  IsNoneSoFar (Some xs) (Some ys) = (any : Bool) → IsAnySelected t invert (lines_of ys) any → IsAnySelected t invert (lines_of xs) any

  pub none_so_far : (input : Option (List ℕ)) → IsNoneSoFar input input
  none_so_far None = tt
  none_so_far (Some xs) = λ any is. is

  pub none_more : (input left rest : Option (List ℕ)) (line : List ℕ) → IsNoneSoFar input left → ReadsLine left true line rest →
      IsAskedFor t (not invert) line → IsNoneSoFar input rest
  none_more None left rest line so reads asked = tt
  none_more (Some xs) None rest line so reads asked = absurd so
  none_more (Some xs) (Some ys) None line so reads asked = absurd reads
  none_more (Some xs) (Some ys) (Some zs) line so reads asked =
      λ any is. so any (subst (λ ls. IsAnySelected t invert ls any) (sym reads) (inr (asked, is)))

  pub one_is : (input left rest : Option (List ℕ)) (line : List ℕ) → IsNoneSoFar input left → ReadsLine left true line rest →
      IsAskedFor t invert line → IfSome input (λ xs. IsAnySelected t invert (lines_of xs) true)
  one_is None left rest line so reads asked = tt
  one_is (Some xs) None rest line so reads asked = absurd so
  one_is (Some xs) (Some ys) None line so reads asked = absurd reads
  one_is (Some xs) (Some ys) (Some zs) line so reads asked =
      so true (subst (λ ls. IsAnySelected t invert ls true) (sym reads) (inl (asked, refl)))

  pub none_is : (input left rest : Option (List ℕ)) (line : List ℕ) → IsNoneSoFar input left → ReadsLine left false line rest →
      IfSome input (λ xs. IsAnySelected t invert (lines_of xs) false)
  none_is None left rest line so reads = tt
  none_is (Some xs) None rest line so reads = absurd so
  none_is (Some xs) (Some ys) rest line so reads = so false (subst (λ ls. IsAnySelected t invert ls false) (sym reads) refl)
