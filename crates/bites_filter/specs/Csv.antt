-- Rows of comma-separated values.
use Rattle.std.specs.Prelude.{ℕ, List, [], ◌∷◌, ◌++◌}

-- the fields, each between quotes, with the separator before the first, a comma before each other one, and a line feed at the end
abbrev pub row_after : List ℕ → List (List ℕ) → List ℕ
row_after separator [] = 10 ∷ []
row_after separator (f ∷ fs) = separator ++ (34 ∷ f ++ (34 ∷ row_after (44 ∷ []) fs))

-- the fields on one line
abbrev pub row : List (List ℕ) → List ℕ
row = row_after []
