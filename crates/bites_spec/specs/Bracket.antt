-- Classes in brackets.
use Rattle.std.specs.Prelude.{◌≡◌, ℕ, ◌<◌, ◌≤◌, Bool, true, false, not, ◌&&◌, ◌||◌, ◌==◌, List, [], ◌∷◌, ◌++◌, length, codes, Option, Some, None, if◌then◌else◌}
use Rattle.bites_spec.specs.Code.{code}
use Rattle.bites_spec.specs.Class
use Rattle.bites_spec.specs.Pattern
use Rattle.bites_spec.specs.Range.{Range}
use Rattle.bites_spec.specs.Class.{Set, NamedClass, class_name, members, single, between, union, complement, folded, Lists}
use Rattle.bites_spec.specs.Pattern.{Text, Flags, skip, next_is, one_of, backslash, dash, left_bracket, right_bracket, ReadsEach}
use Rattle.bites_spec.specs.Escape.{Meaning, character, characters, assertion, ReadsEscape}

-- a caret and a gap, or none
pub data ReadsCaret (flags : Flags) : Text → Bool → Text → Type 0 where
  caret : (t next rest : Text) (negated : Bool) → t ≡ Pattern.caret ∷ next → rest ≡ skip flags next → negated ≡ true → ReadsCaret flags t negated rest
  none : (t rest : Text) (negated : Bool) → next_is (single Pattern.caret) t ≡ false → rest ≡ t → negated ≡ false → ReadsCaret flags t negated rest

-- after the leading dashes: they stand for a dash; if there are none, a closing bracket stands for itself
pub data ReadsLeading (flags : Flags) (dashes : Text) : Text → Set → Text → Type 0 where
  some_dashes : (t rest : Text) (set : Set) → 0 < length dashes → set ≡ single dash → rest ≡ t → ReadsLeading flags dashes t set rest
  bracket : (t next rest : Text) (set : Set) →
      dashes ≡ [] → t ≡ right_bracket ∷ next → set ≡ single right_bracket → rest ≡ skip flags next → ReadsLeading flags dashes t set rest
  neither : (t rest : Text) (set : Set) →
      dashes ≡ [] → next_is (single right_bracket) t ≡ false → set ≡ Class.none → rest ≡ t → ReadsLeading flags dashes t set rest

-- `ReadsBracketFront flags t negated leading rest`: from t up to rest stands all before the first member
pub data ReadsBracketFront (flags : Flags) : Text → Bool → Set → Text → Type 0 where
  front : (t next behind_caret behind_dashes dashes rest : Text) (negated : Bool) (leading : Set) →
      t ≡ left_bracket ∷ next → ReadsCaret flags (skip flags next) negated behind_caret →
      ReadsEach flags (single dash) behind_caret dashes behind_dashes → ReadsLeading flags dashes behind_dashes leading rest →
      ReadsBracketFront flags t negated leading rest

-- an end of a range, or what would be one: a character or an escape
pub data ReadsEnd (flags : Flags) : Text → Meaning → Text → Type 0 where
  plain : (c : ℕ) (t rest : Text) (meaning : Meaning) → t ≡ c ∷ rest → (c == backslash) ≡ false → meaning ≡ character c → ReadsEnd flags t meaning rest
  escape : (t rest : Text) (meaning : Meaning) → ReadsEscape flags t meaning rest → ReadsEnd flags t meaning rest

-- a first end does not begin with a bracket
abbrev pub may_be_first : Text → Bool
may_be_first t = not (next_is (one_of (codes "[]")) t)

-- a second end does not begin with a closing bracket or a dash; this holds at the end of the pattern too
abbrev pub may_be_second : Text → Bool
may_be_second t = not (next_is (one_of (codes "]-")) t)

-- after a first end and its gap, a dash leads to a second end
abbrev pub leads_to_second : Flags → Text → Bool
leads_to_second flags [] = false
leads_to_second flags (c ∷ t) = (c == dash) && may_be_second (skip flags t)

-- the characters of a first end that stands alone; none for an assertion
abbrev pub set_of : Meaning → Option Set
set_of (character c) = Some (single c)
set_of (characters set) = Some set
set_of (assertion l) = None

-- two of the same character stand here
abbrev pub is_twice : ℕ → Text → Bool
is_twice c [] = false
is_twice c (d ∷ t) = (d == c) && next_is (single c) t

-- an operator on sets stands here: && or -- or ~~
abbrev pub is_set_operator : Text → Bool
is_set_operator t = is_twice (code "&") t || is_twice dash t || is_twice (code "~") t

-- `ReadsMember flags t set rest`: from t up to rest stands a member of a class
pub data ReadsMember (flags : Flags) : Text → Set → Text → Type 0 where
  named : (name : NamedClass) (t rest : Text) (set : Set) →
      t ≡ codes "[:" ++ class_name name ++ codes ":]" ++ rest → set ≡ members name → ReadsMember flags t set rest
  not_named : (name : NamedClass) (t rest : Text) (set : Set) →
      t ≡ codes "[:^" ++ class_name name ++ codes ":]" ++ rest → set ≡ complement (members name) → ReadsMember flags t set rest
  range : (low high : ℕ) (t behind next rest : Text) (set : Set) →
      may_be_first t ≡ true → ReadsEnd flags t (character low) behind → skip flags behind ≡ dash ∷ next →
      may_be_second (skip flags next) ≡ true → ReadsEnd flags (skip flags next) (character high) rest → low ≤ high →
      set ≡ between low high → ReadsMember flags t set rest
  alone : (meaning : Meaning) (t rest : Text) (set : Set) →
      may_be_first t ≡ true → ReadsEnd flags t meaning rest → leads_to_second flags (skip flags rest) ≡ false →
      set_of meaning ≡ Some set → ReadsMember flags t set rest

-- members up to and with the closing bracket, and the union of their sets
pub data ReadsMembers (flags : Flags) : Text → Set → Text → Type 0 where
  closed : (t rest : Text) (set : Set) → skip flags t ≡ right_bracket ∷ rest → set ≡ Class.none → ReadsMembers flags t set rest
  goes_on : (t next rest : Text) (one others set : Set) →
      is_set_operator (skip flags t) ≡ false → ReadsMember flags (skip flags t) one next → ReadsMembers flags next others rest →
      set ≡ union one others → ReadsMembers flags t set rest

-- under `i`, with both cases of each ASCII letter
abbrev pub with_cases : Flags → Set → Set
with_cases flags set = if flags.case_insensitive then folded set else set

-- under a caret, all other characters
abbrev pub with_negation : Bool → Set → Set
with_negation negated set = if negated then complement set else set

-- `ReadsBracket flags t ranges rest`: from t up to rest stands a class in brackets: the union, folded, then negated
pub data ReadsBracket (flags : Flags) : Text → List Range → Text → Type 0 where
  bracket : (t items rest : Text) (negated : Bool) (leading set : Set) (ranges : List Range) →
      ReadsBracketFront flags t negated leading items → ReadsMembers flags items set rest →
      Lists ranges (with_negation negated (with_cases flags (union leading set))) → ReadsBracket flags t ranges rest
