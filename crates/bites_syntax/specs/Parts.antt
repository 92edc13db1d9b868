-- What a part of the parser returns, beside what the reader returns.
use Rattle.std.specs.Prelude.{◌≡◌, ℕ, ◌≤◌, ◌<◌, ◌⊎◌, length, encode_utf8_all, Option, Some, None, Result, Ok, Err, MatchResult, OnOk}
use Rattle.bites_spec.specs.Pattern.{Text}
use Rattle.bites_spec.specs.Reader.{Stop, ReadResult}
use Rattle.bites_text.specs.Messages.{error_of}
use Rattle.bites_text.specs.declared.error.Error.{Error}
use Rattle.bites_text.specs.declared.error.Error.TheVariants as error
use Rattle.bites_syntax.specs.declared.refusal.Refusal.{Refusal}
use Rattle.bites_syntax.specs.declared.refusal.Refusal.TheVariants.{Memory, TooTall, At}

-- the fault of an error at a place, from which on this text is left
abbrev pub fault_at : Error → Text → Refusal
fault_at error place = At error (length (encode_utf8_all place))

-- the error of a refusal
abbrev pub error_by : Refusal → Error
error_by Memory = error.Memory
error_by TooTall = error.TooMuchNesting
error_by (At e left) = e

-- the fault of a stop, if the reader stops
abbrev pub fault_in : {A : Type 0} → Result A Stop → Option Refusal
fault_in (Ok x) = None
fault_in (Err s) = Some (fault_at (error_of s.message) s.place)

-- memory ran out, or the reader stops with this fault
abbrev pub IsFaultOf : {A : Type 0} → Refusal → Result A Stop → Type 0
IsFaultOf e a = (e ≡ Memory) ⊎ (fault_in a ≡ Some e)

-- the reader returns a value that the result stands for and the text that is left, or stops with the fault
abbrev pub Agrees : {A B : Type 0} → (A → B → Type 0) → Result A Refusal → Text → ReadResult B → Type 0
Agrees {B = B} R result rest a = MatchResult result (λ x. (y : B) × (a ≡ Ok (y, rest)) × R x y) (λ e. IsFaultOf e a)

-- this holds of a part of the parser that reads on from the text `old` to the text `new`, which is no longer
pub record ReadsOn (old new : Text) (P : Type 0) : Type 0 where
  pub reads : P
  pub forward : length new ≤ length old

-- the same of a part that reads something if it returns no refusal
pub record ReadsSome {A : Type 0} (result : Result A Refusal) (old new : Text) (P : Type 0) : Type 0 where
  pub reads : P
  pub forward : length new ≤ length old
  pub progress : OnOk result (length new < length old)

-- this holds for each number of steps that is enough to read the text
abbrev pub ForEnoughSteps : Text → (ℕ → Type 0) → Type 0
ForEnoughSteps t P = (n : ℕ) → length t ≤ n → P n
