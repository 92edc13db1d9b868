-- What replacers give for the groups of a match.
use Rattle.std.specs.Prelude.{◌≡◌, ℕ, ◌==◌, Bool, not, cond, List, Option, Some, None, option_map}
use Rattle.std.specs.Borrow.{Bor}
use Rattle.std.specs.List.{list_all}
use Rattle.bites_spec.specs.Code.{code}
use Rattle.bites_spec.specs.Expansion.{expansion_of}
use Rattle.bites_spec.specs.Captured.{Captured}
use Rattle.bites_spec.specs.Refused.{IsFront}

-- what a template stands for by the groups of a match
abbrev pub expanded : Captured → List ℕ → List ℕ
expanded c template = expansion_of c.regex.names c.slots c.haystack template

-- whether a text holds no `$`, so that it is a template that stands for itself
abbrev pub is_plain : List ℕ → Bool
is_plain text = list_all (λ b. not (b == code "$")) text

-- the text, if it is plain
abbrev pub plain_text : List ℕ → Option (List ℕ)
plain_text text = cond (is_plain text) (Some text) None

-- the bytes that stand for each match, if they are always the same
abbrev pub answer_text : Option (Bor (List ℕ)) → Option (List ℕ)
answer_text = option_map (λ t. t.now)

-- a template gives what it stands for, and is unchanged
abbrev pub GivesExpansion : {S : Type 0} → (S → List ℕ) → S → Captured → List ℕ → S → Type 0
GivesExpansion template s c text t = (text ≡ expanded c (template s)) × (t ≡ s)

-- `no_expansion` of a template returns its text if that is plain, and the template is unchanged
abbrev pub AnswersPlain : {S : Type 0} → (S → List ℕ) → S → Option (List ℕ) → S → Type 0
AnswersPlain template s answer t = (answer ≡ plain_text (template s)) × (t ≡ s)

-- if memory is refused, a prefix of what the template stands for was appended, and the template is unchanged
abbrev pub BeginsExpansion : {S : Type 0} → (S → List ℕ) → S → Captured → List ℕ → S → Type 0
BeginsExpansion template s c text t = IsFront text (expanded c (template s)) × (t ≡ s)

-- if memory is refused, a prefix of the text was appended, and the replacer is unchanged
abbrev pub BeginsText : {S : Type 0} → (S → List ℕ) → S → Captured → List ℕ → S → Type 0
BeginsText literal s c text t = IsFront text (literal s) × (t ≡ s)
