-- What is left when memory is refused.
use Rattle.std.specs.Prelude.{◌≡◌, ℕ, ◌<◌, List, [], ◌∷◌, ◌++◌, length, Option, MatchOption, Result, Ok, Err, MatchResult}
use Rattle.std.specs.Iterator.{Drains}

-- `front` is a prefix of `whole`
abbrev pub IsFront : {B : Type 0} → List B → List B → Type 0
IsFront {B} front whole = (rest : List B) × (whole ≡ front ++ rest)

-- the new text is the old one and after it one of these texts
abbrev pub Appends : (List ℕ → Type 0) → List ℕ → List ℕ → Type 0
Appends Texts old new = (text : List ℕ) × Texts text × (new ≡ old ++ text)

-- the text is appended, or if memory was refused a prefix of it
abbrev pub AppendsUntilRefused : {E : Type 0} → Result (Unit {0}) E → (old new text : List ℕ) → Type 0
AppendsUntilRefused r old new text =
    MatchResult r (λ done. new ≡ old ++ text) (λ e. (front : List ℕ) × IsFront front text × (new ≡ old ++ front))

-- What an iterator returns if each item is a result: C is what is returned, and B what is seen of it.
module _ {S B C E : Type 0} (view : C → B) (left : S → List B) where
  -- a call returns the first item that is left, or instead of it a refusal, after which nothing is left
  abbrev pub YieldsUntilRefused : S → Option (Result C E) → S → Type 0
  YieldsUntilRefused s r t =
      MatchOption r ((left s ≡ []) × (left t ≡ []))
      (λ x. MatchResult x (λ c. left s ≡ view c ∷ left t) (λ e. (0 < length (left s)) × (left t ≡ [])))

-- each item in turn; or the first n of them, a refusal instead of the next one, and then nothing
abbrev pub GivenUntilRefused : {B C E : Type 0} → (C → B) → List B → List (Result C E) → Type 0
GivenUntilRefused view [] [] = Unit {0}
GivenUntilRefused view [] (r ∷ rs) = ⊥
GivenUntilRefused view (x ∷ xs) [] = ⊥
GivenUntilRefused view (x ∷ xs) (Ok c ∷ rs) = (view c ≡ x) × GivenUntilRefused view xs rs
GivenUntilRefused view (x ∷ xs) (Err e ∷ rs) = rs ≡ []

-- all that such an iterator returns are the items that were left, until memory is refused
abbrev pub IterationsEnd : Type 0 → Type 0 → Type 0 → Type 0 → Type 0
IterationsEnd S B C E =
    (view : C → B) (left : S → List B) (s : S) (rs : List (Result C E)) →
    Drains (YieldsUntilRefused view left) s rs → GivenUntilRefused view (left s) rs
