-- What a walk sees of a place: the kind of the byte before it, and the character after it.
use Rattle.std.specs.Prelude.{◌≡◌, ℕ, Bool, true, false, List, [], ◌∷◌, map, Option, Some, None, is_some, if◌then◌else◌, ◌==◌}
use Rattle.bites_spec.specs.Class.{is_scalar}
use Rattle.bites_spec.specs.Look.{Look, is_word_byte, holds_between}
use Rattle.bites_spec.specs.Program.{State, Program, state_at, targets_of, edges, char, ranges, splits, goto, capture, fail, match}
use Rattle.bites_machine.specs.Ends.{targets_over}

-- the kinds of bytes that assertions tell apart; the edge is an end of the haystack, where there is no byte
pub data Kind : Type 0 where
  edge line_feed carriage_return word_byte other : Kind

abbrev pub kind_of_byte : ℕ → Kind
kind_of_byte b = if b == 10 then line_feed else if b == 13 then carriage_return else if is_word_byte b then word_byte else other

-- the kind of a byte or of a character, if there is one
abbrev pub kind_of : Option ℕ → Kind
kind_of None = edge
kind_of (Some b) = kind_of_byte b

abbrev pub is_edge : Kind → Bool
is_edge edge = true
is_edge _ = false

-- a byte of the kind
abbrev pub byte_of : Kind → Option ℕ
byte_of edge = None
byte_of line_feed = Some 10
byte_of carriage_return = Some 13
byte_of word_byte = Some 97
byte_of other = Some 32

-- whether an assertion holds between bytes of two kinds
abbrev pub holds_by : Look → Kind → Kind → Bool
holds_by look b a = holds_between look (byte_of b) (byte_of a) (is_edge b) (is_edge a)

-- where a state leads between bytes of two kinds, without taking a character
abbrev pub leads_between : Kind → Kind → State → List ℕ
leads_between k a (char q c) = []
leads_between k a (ranges q rs) = []
leads_between k a (splits qs is_reversed) = targets_of (splits qs is_reversed)
leads_between k a (goto q None) = q ∷ []
leads_between k a (goto q (Some look)) = if holds_by look k a then q ∷ [] else []
leads_between k a (capture q slot) = q ∷ []
leads_between k a fail = []
leads_between k a match = []

-- where a state leads, by the kind of the byte before and the character after
abbrev pub leads_by : Kind → Option ℕ → State → List ℕ
leads_by k o (char q c) = targets_over o (char q c)
leads_by k o (ranges q rs) = targets_over o (ranges q rs)
leads_by k o st = leads_between k (kind_of o) st

-- where a state leads at a place of a haystack
abbrev pub leads_at : List ℕ → ℕ → State → List ℕ
leads_at hay i st = map (λ s. s.state) (edges hay st i)

-- the state tests an assertion
abbrev pub asserts : State → Bool
asserts (goto q (Some look)) = true
asserts _ = false

-- no assertion of the program tells the two kinds of the byte before apart
abbrev pub AreAlikeKinds : Program → Kind → Kind → Type 0
AreAlikeKinds p k l = (o : Option ℕ) (q : ℕ) → leads_by k o (state_at p.states q) ≡ leads_by l o (state_at p.states q)

-- no state tells the two characters apart, here or as the character before; the end is alike to itself alone
pub record AreAlike (p : Program) (o u : Option ℕ) : Type 0 where
  pub leads : (k : Kind) (q : ℕ) → leads_by k o (state_at p.states q) ≡ leads_by k u (state_at p.states q)
  pub kinds : AreAlikeKinds p (kind_of o) (kind_of u)
  pub some : is_some o ≡ is_some u

-- a character, or none at the end
abbrev pub is_character : Option ℕ → Bool
is_character None = true
is_character (Some c) = is_scalar c

-- classes of characters, one of them for the end, each with a member; and how many there are
pub record Classes : Type 0 where
  pub class_of : Option ℕ → ℕ
  pub member : ℕ → Option ℕ
  pub len : ℕ

-- the member of each class is alike to all characters of the class
abbrev pub AreClasses : Program → Classes → Type 0
AreClasses p k = (o : Option ℕ) → is_character o ≡ true → AreAlike p (k.member (k.class_of o)) o
