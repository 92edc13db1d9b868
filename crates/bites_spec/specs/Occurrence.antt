-- Where a text stands in a haystack.
use Rattle.std.specs.Prelude.{◌≡◌, ℕ, ◌+◌, ◌<◌, ◌≤◌, List, ◌++◌, length, drop, Option, Some, None}
use Rattle.bites_spec.specs.Match.{Span}

-- these bytes stand at i
abbrev pub StandsAt : (hay text : List ℕ) → ℕ → Type 0
StandsAt hay text i = (i ≤ length hay) × ((rest : List ℕ) × (drop i hay ≡ text ++ rest))

-- where these bytes first stand from s on, or none if they do not
abbrev pub IsLeftmost : (hay text : List ℕ) → ℕ → Option Span → Type 0
IsLeftmost hay text s None = (i : ℕ) → s ≤ i → StandsAt hay text i → ⊥
IsLeftmost hay text s (Some g) =
    (s ≤ g.start) × StandsAt hay text g.start × (g.end ≡ g.start + length text)
    × ((i : ℕ) → s ≤ i → i < g.start → StandsAt hay text i → ⊥)
