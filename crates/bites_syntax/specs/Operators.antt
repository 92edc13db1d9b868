-- Bounds of operators.
use Rattle.std.specs.Prelude.{◌≡◌, Some, Result, Ok, MatchResult}
use Rattle.bites_spec.specs.Pattern.{Text}
use Rattle.bites_spec.specs.Reader.{ReadResult}
use Rattle.bites_spec.specs.Reader as reading
use Rattle.bites_syntax.specs.declared.refusal.Refusal.{Refusal}
use Rattle.bites_syntax.specs.declared.operator.Bounds.{Bounds}
use Rattle.bites_syntax.specs.Parts.{fault_in}

-- the bounds of the program as those of the reader
abbrev pub bounds_of : Bounds → reading.Bounds
bounds_of b = (b.min, b.max, b.greedy)

-- the reader returns the result and the text that is left, or stops with the error
abbrev pub Answers : {A B : Type 0} → (A → B) → Result A Refusal → Text → ReadResult B → Type 0
Answers view result rest a = MatchResult result (λ x. a ≡ Ok (view x, rest)) (λ e. fault_in a ≡ Some e)
