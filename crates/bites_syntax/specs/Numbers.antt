-- Numbers that are read up to a bound.
use Rattle.std.specs.Prelude.{◌≡◌, ℕ, ◌≤◌, ◌⊎◌}

-- two numbers are the same, or both reach the bound
abbrev pub AgreeBelow : ℕ → ℕ → ℕ → Type 0
AgreeBelow bound m n = (m ≡ n) ⊎ ((bound ≤ m) × (bound ≤ n))
