-- The members of a class in brackets.
use Rattle.std.specs.Prelude.{◌≡◌, ℕ, ◌+◌, Bool, true, false, List, [], ◌∷◌, ◌++◌, length, drop, codes, Option, Some, None, Result, Ok, MatchOption, MatchResult, if◌then◌else◌}
use Rattle.bites_spec.specs.Range.{Range, in_ranges}
use Rattle.bites_spec.specs.Class.{Set, NamedClass, complement, members, class_name, none, single, is_scalar}
use Rattle.bites_spec.specs.Bracket.{is_set_operator}
use Rattle.bites_spec.specs.Pattern.{Text, Flags, begins}
use Rattle.bites_spec.specs.Reader.{ReadResult, Members, bracket, class_members, dashes, finished, set_operator_message}
use Rattle.bites_text.specs.Messages.{error_of}
use Rattle.bites_text.specs.declared.error.Error.{Error}
use Rattle.bites_syntax.specs.declared.refusal.Refusal.{Refusal}
use Rattle.bites_syntax.specs.Parts.{IsFaultOf, fault_in}

-- the ranges have the scalar values of the set
unfoldable pub Has : List Range → Set → Type 0
Has ranges set = (c : ℕ) → is_scalar c ≡ true → in_ranges ranges c ≡ set c

-- the reader adds a part of a class to any set that the ranges had, as the new ranges do, or stops with the error
abbrev pub Adds : List Range → List Range → Result (Unit {0}) Refusal → Text → (Members → Set → ReadResult Set) → Type 0
Adds old new result rest read =
    (go : Members) (set : Set) → Has old set →
    MatchResult result (λ _. (more : Set) × (read go set ≡ go more rest) × Has new more) (λ e. IsFaultOf e (read go set))

-- the reader adds all that is left of a class to any set that the ranges had, as the new ranges do, or stops with the error
abbrev pub AddsAll : List Range → List Range → Result (Unit {0}) Refusal → Text → (Set → ReadResult Set) → Type 0
AddsAll old new result rest read =
    (set : Set) → Has old set →
    MatchResult result (λ _. (more : Set) × (read set ≡ Ok (more, rest)) × Has new more) (λ e. IsFaultOf e (read set))

-- the first of these classes whose name stands here, whether a caret comes before it, and the text after it
unfoldable pub named_at : Text → List NamedClass → Option (NamedClass × Bool × Text)
named_at t [] = None
named_at t (k ∷ classes) =
    if begins (codes "[:" ++ class_name k ++ codes ":]") t then Some (k, false, drop (4 + length (class_name k)) t)
    else if begins (codes "[:^" ++ class_name k ++ codes ":]") t then Some (k, true, drop (5 + length (class_name k)) t)
    else named_at t classes

-- the characters of a named class, or all others
abbrev pub members_named : NamedClass → Bool → Set
members_named k negated = if negated then complement (members k) else members k

-- the character that stands for itself before the members
abbrev pub leading_set : Option ℕ → Set
leading_set None = none
leading_set (Some c) = single c

-- what the reader does after the caret
abbrev pub AnswersCaret : Result Bool Refusal → Text → (n : ℕ) (flags : Flags) → Text → Type 0
AnswersCaret result rest n flags t =
    MatchResult result (λ negated. bracket n flags t ≡ dashes n flags negated rest) (λ e. fault_in (bracket n flags t) ≡ Some e)

-- what the reader does from the first member on
abbrev pub AnswersLeading : Result (Option ℕ) Refusal → Text → (n : ℕ) (flags : Flags) (negated : Bool) → Text → Type 0
AnswersLeading result rest n flags negated t =
    MatchResult result (λ lead. dashes n flags negated t ≡ finished flags negated (class_members n flags (leading_set lead) rest))
    (λ e. fault_in (dashes n flags negated t) ≡ Some e)

-- the operator on sets that stands here is refused by this error, or none stands here
abbrev pub IsOperatorError : Option Error → Text → Type 0
IsOperatorError found [] = found ≡ None
IsOperatorError found (c ∷ t) =
    MatchOption found (is_set_operator (c ∷ t) ≡ false) (λ e. (is_set_operator (c ∷ t) ≡ true) × (error_of (set_operator_message c) ≡ e))
