-- Trees of which each match begins at the start of the haystack, has one width, and marks the same groups at the same places.
use Rattle.std.specs.Prelude.{◌≡◌, ◌↔◌, ℕ, ◌<◌, ◌≤◌, ◌⊎◌, true, List, ◌++◌, length, map}
use Rattle.bites_spec.specs.Tree.{Tree}
use Rattle.bites_spec.specs.Match.{Mark, Matches, Parse, mark}
use Rattle.bites_literals.specs.AllowedBytes.{Fits, MayStand}
use Rattle.bites_literals.specs.declared.fixed_width.FixedWidth.{FixedWidth}
use Rattle.bites_literals.specs.declared.fixed_width.Group.{Group}

-- where the groups are marked
abbrev pub marks_of : List Group → List Mark
marks_of = map (λ g. mark g.number g.start g.end)

-- the haystack begins with bytes that may stand there, and ends behind them if each match does so
abbrev pub IsHere : FixedWidth → List ℕ → Type 0
IsHere f hay = Fits f.allowed hay 0 f.len × (f.ends ≡ true → f.len ≡ length hay)

-- the tree has one match at most, and this is what it is
pub record IsFixedWidth (t : Tree) (f : FixedWidth) : Type 0 where
  pub short : f.len ≤ 64
  pub parses : (hay : List ℕ) (i j : ℕ) (ms : List Mark) → Parse hay t i j ms → (i ≡ 0) × (j ≡ f.len) × IsHere f hay × (ms ≡ marks_of f.groups.items)
  pub matches : (hay : List ℕ) → IsHere f hay → Matches hay t 0 f.len

-- no byte may stand yet at an offset past the width
pub record MayGrow (f : FixedWidth) : Type 0 where
  pub short : f.len ≤ 64
  pub clear : (k byte : ℕ) → f.len ≤ k → MayStand f.allowed k byte → ⊥

-- P says of a haystack what is parsed between two of its offsets, and with which marks: it was added behind what was known before
pub record Adds (P : List ℕ → ℕ → ℕ → List Mark → Type 0) (old new : FixedWidth) : Type 0 where
  pub more : List Mark
  pub groups : marks_of new.groups.items ≡ marks_of old.groups.items ++ more
  pub onward : old.len ≤ new.len
  pub grows : MayGrow new
  pub kept : (k byte : ℕ) → k < old.len → MayStand new.allowed k byte ↔ MayStand old.allowed k byte
  pub last : old.ends ≡ true → (new.ends ≡ true) × (new.len ≡ old.len)
  pub parses : (hay : List ℕ) (j : ℕ) (ms : List Mark) → P hay old.len j ms →
      (j ≡ new.len) × Fits new.allowed hay old.len new.len × (ms ≡ more) × (new.ends ≡ true → (old.ends ≡ true) ⊎ (new.len ≡ length hay))
  pub fits : (hay : List ℕ) → Fits new.allowed hay old.len new.len → (new.ends ≡ true → new.len ≡ length hay) → P hay old.len new.len more
