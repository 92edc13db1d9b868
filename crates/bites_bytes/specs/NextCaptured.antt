-- The groups of the next match.
use Rattle.std.specs.Prelude.{◌≡◌, ◌<◌, ℕ, List, [], ◌∷◌, length, Option, Some, None, Result, Ok, Err}
use Rattle.bites_spec.specs.Regex.{Regex}
use Rattle.bites_spec.specs.Captured.{Captured}
use Rattle.bites_spec.specs.Replaced.{span_in}
use Rattle.bites_spec.specs.Iteration.{captures_after}

-- the groups are the first of those that follow a match that ends at `last`, or of all; the others follow them
pub record IsNextCaptured (r : Regex) (hay : List ℕ) (last : Option ℕ) (c : Captured) : Type 0 where
  pub regex : c.regex ≡ r
  pub haystack : c.haystack ≡ hay
  pub follow : captures_after r hay last ≡ c ∷ captures_after r hay (Some (span_in c).end)

-- there is no next match, or its groups are returned, or memory was refused for them
abbrev pub FindsNextCaptured : {E : Type 0} → Regex → List ℕ → Option ℕ → Option (Result Captured E) → Type 0
FindsNextCaptured r hay last None = captures_after r hay last ≡ []
FindsNextCaptured r hay last (Some (Ok c)) = IsNextCaptured r hay last c
FindsNextCaptured r hay last (Some (Err e)) = 0 < length (captures_after r hay last)
