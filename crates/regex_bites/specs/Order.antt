-- The order of spans, in a form that a field can keep.
use Rattle.std.specs.Prelude.{◌≤◌, ℕ, List, [], ◌∷◌, ⊤}
use Rattle.std.specs.Coded.{×_prop, Unit-prop, le_prop}
use Rattle.bites_spec.specs.Match.{Span}

-- the first begins at e or after it, and each other one where the one before it ends, or after that
abbrev pub BeginFrom : ℕ → List Span → Type 0
BeginFrom e [] = ⊤
BeginFrom e (s ∷ ss) = (e ≤ s.start) × BeginFrom s.end ss

pub BeginFrom-prop : (e : ℕ) (ss : List Span) → IsProp (BeginFrom e ss)
BeginFrom-prop e [] = Unit-prop
BeginFrom-prop e (s ∷ ss) = ×_prop le_prop (BeginFrom-prop s.end ss)
