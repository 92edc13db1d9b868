-- What the readers of groups and of braces return, in the form that the reader of patterns uses.
use Rattle.std.proofs.Common.{◌≡◌, ℕ, ◌<◌, ◌≤◌, ◌⊎◌, Bool, true, ◌∷◌, length, max, Option, Ok, Err}
use Rattle.std.specs.Prelude.{unwrap_or}
use Rattle.bites_spec.specs.Message as message
use Rattle.bites_spec.specs.Message.{Message}
use Rattle.bites_spec.specs.Pattern.{Text, Flags, Front, skip, question, left_parenthesis, right_parenthesis}
use Rattle.bites_spec.specs.OperatorFault.{greatest_number}
use Rattle.bites_spec.specs.Group.{Opening, ReadsOpening, ReadsFlags, changed}
use Rattle.bites_spec.specs.Fault.{ComesFirst}
use Rattle.bites_spec.specs.Reader.{ReadResult, Opened, directive, group, answer, stop}

-- from t up to rest stands a directive, which sets the flags to `flags`
pub record ReadsDirective (front : Front) (t : Text) (flags : Flags) (rest : Text) : Type 0 where
  pub next : Text
  pub marks : Text
  pub run : Text
  pub c : ℕ
  pub letters : Text
  pub opens : t ≡ left_parenthesis ∷ next
  pub asks : skip front.flags next ≡ question ∷ marks
  pub reads : ReadsFlags marks run (right_parenthesis ∷ rest)
  pub some : run ≡ c ∷ letters
  pub are : flags ≡ changed true run front.flags

-- what opens here: a directive, or a group that does not pass the limit on numbers
abbrev pub Opens : Front → Text → Opened → Text → Type 0
Opens front t (directive flags) rest = ReadsDirective front t flags rest
Opens front t (group opening inner) rest = ReadsOpening front t opening inner rest × (front.groups ≤ greatest_number → inner.groups ≤ greatest_number)

-- the result is a stop that comes no later than this message at this place
abbrev pub StopsBy : {A : Type 0} → Message → Text → ReadResult A → Type 0
StopsBy m place (Ok x) = ⊥
StopsBy m place (Err e) = ComesFirst e.message e.place m place

-- the greater bound of an operator, or the least if there is no greatest
abbrev pub most_of : ℕ → Option ℕ → ℕ
most_of min most = max min (unwrap_or most 0)

-- the result where the relation reads an operator in braces: its bounds, or a stop at a number that is too large
abbrev pub LeadsToCount : ℕ → Option ℕ → Bool → Text → ReadResult (ℕ × Option ℕ × Bool) → Type 0
LeadsToCount min most greedy rest a =
    ((a ≡ answer (min, most, greedy) rest) × (most_of min most ≤ greatest_number))
    ⊎ ((place : Text) × (a ≡ stop message.invalid_decimal place) × (length rest < length place) × (greatest_number < most_of min most))

-- the result where the relation reads a group's opening: the opening, or a stop at too many groups
abbrev pub LeadsToGroup : Front → Opening → Text → ReadResult Opened → Type 0
LeadsToGroup inner opening inside a =
    (a ≡ answer (group opening inner) inside)
    ⊎ ((place : Text) × (a ≡ stop message.too_many_groups place) × (length inside ≤ length place) × (greatest_number < inner.groups))
