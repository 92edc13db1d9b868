-- Where the characters begin that a program tells apart.
use Rattle.std.specs.Prelude.{◌≡◌, ℕ, ◌<◌, ◌≤◌, true, List, [], ◌∷◌, ◌++◌, if◌then◌else◌, ◌==◌}
use Rattle.std.specs.List.{Contains}
use Rattle.bites_spec.specs.Class.{is_scalar, following}
use Rattle.bites_spec.specs.Range.{Range}
use Rattle.bites_spec.specs.Program.{State, state_at, takes, char, ranges}
use Rattle.bites_table.specs.Kinds.{kind_of_byte}
use Rattle.bites_table.specs.Distinctions.{seen}
use Rattle.bites_table.specs.declared.distinctions.Distinctions.{Distinctions}

-- the next character, if there is one
abbrev pub bounds_after : ℕ → List ℕ
bounds_after c = if c == 0x10_FFFF then [] else following c ∷ []

-- where ranges begin, and where what follows them does
abbrev pub ends_of : List Range → List ℕ
ends_of [] = []
ends_of (r ∷ rs) = r.0 ∷ (bounds_after r.1 ++ ends_of rs)

-- those of what a state takes
abbrev pub bounds_of_state : State → List ℕ
bounds_of_state (char q c) = ends_of ((c, c) ∷ [])
bounds_of_state (ranges q rs) = ends_of rs
bounds_of_state _ = []

abbrev pub bounds_of : List State → List ℕ
bounds_of [] = []
bounds_of (s ∷ ss) = bounds_of_state s ++ bounds_of ss

-- the characters of the kinds that are told apart
abbrev pub line_feeds : List Range
line_feeds = (10, 10) ∷ []

abbrev pub carriage_returns : List Range
carriage_returns = (13, 13) ∷ []

abbrev pub word_bytes : List Range
word_bytes = (48, 57) ∷ (65, 90) ∷ (95, 95) ∷ (97, 122) ∷ []

abbrev pub bounds_of_kinds : Distinctions → List ℕ
bounds_of_kinds d =
    (if d.line then ends_of line_feeds else [])
    ++ ((if d.carriage_return then ends_of carriage_returns else []) ++ (if d.word then ends_of word_bytes else []))

-- the same states take both characters, and no more is seen of the kind of one
pub record AreTakenAlike (ss : List State) (kinds : Distinctions) (c d : ℕ) : Type 0 where
  pub by_states : (q : ℕ) → takes (state_at ss q) c ≡ takes (state_at ss q) d
  pub by_kinds : seen kinds (kind_of_byte c) ≡ seen kinds (kind_of_byte d)

-- no bound lies above the first number and not above the second
abbrev pub NoneBetween : List ℕ → ℕ → ℕ → Type 0
NoneBetween bounds c d = (b : ℕ) → Contains bounds b → c < b → d < b

-- the same states take a character and a number below it without a bound between them
abbrev pub AreBounds : List State → Distinctions → List ℕ → Type 0
AreBounds ss kinds bounds =
    (c d : ℕ) → is_scalar d ≡ true → c ≤ d → NoneBetween bounds c d → AreTakenAlike ss kinds c d
