-- A set of states with a list of them.
use Rattle.std.specs.Prelude.{◌≡◌, ℕ, ◌<◌, Bool, true, false, List, length, ◌==◌, slice_index_or}
use Rattle.std.specs.List.{list_any}

-- the listed states are known, and they are the members
pub record AreMembers (members : List Bool) (states : List ℕ) : Type 0 where
  pub known : (q : ℕ) → list_any (λ s. s == q) states ≡ true → q < length members
  pub member : (q : ℕ) → q < length members → slice_index_or members q false ≡ list_any (λ s. s == q) states

-- no member of the second is one of the first
abbrev pub AreApart : List ℕ → List ℕ → Type 0
AreApart own others = (q : ℕ) → list_any (λ s. s == q) others ≡ true → list_any (λ s. s == q) own ≡ false
