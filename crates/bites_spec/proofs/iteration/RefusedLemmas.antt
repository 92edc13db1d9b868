-- An iterator of results yields the items in order, and stops after the first error.
use Rattle.std.proofs.Common.{◌≡◌, ◌<◌, List, [], ◌∷◌, length, Ok, Err, Result, refl, sym, ◌∙◌, subst, arith}
use Rattle.std.specs.Iterator.{Yields}
use Rattle.bites_spec.specs.Refused.{YieldsUntilRefused, GivenUntilRefused}

module _ {S B C E : Type 0} (view : C → B) (left : S → List B) where
  -- an iterator with nothing left yields nothing
  nothing_comes : (s t : S) (rs : List (Result C E)) → left s ≡ [] → Yields (YieldsUntilRefused {E = E} view left) s rs t → rs ≡ []
  nothing_comes s t [] none run = refl
  nothing_comes s t (Ok c ∷ rs) none run = let e = sym none ∙ run.1 in cc
  nothing_comes s t (Err e ∷ rs) none run = let some = run.1.0 in absurd (omega (arith, subst (λ xs. 0 < length xs) none some))

  pub given : (s t : S) (rs : List (Result C E)) → Yields (YieldsUntilRefused {E = E} view left) s rs t → left t ≡ [] →
      GivenUntilRefused view (left s) rs
  given s t [] run none = subst (λ xs. GivenUntilRefused {E = E} view xs []) (sym (subst (λ z. left z ≡ []) (sym run) none)) tt
  given s t (Ok c ∷ rs) run none =
      subst (λ xs. GivenUntilRefused {E = E} view xs (Ok c ∷ rs)) (sym run.1) (refl, given run.0 t rs run.2 none)
  given s t (Err e ∷ rs) run none = some (left s) run.1.0 (nothing_comes run.0 t rs run.1.1 run.2)
    where
      some : (xs : List B) → 0 < length xs → rs ≡ [] → GivenUntilRefused view xs (Err e ∷ rs)
      some [] h is = absurd (omega arith)
      some (x ∷ xs) h is = is
