-- Templates that are cut part by part.
use Rattle.std.specs.Prelude.{◌≡◌, ℕ, ◌+◌, Bool, true, List, ◌∷◌, ◌++◌, length, take, drop}
use Rattle.std.specs.List.{list_all}
use Rattle.bites_spec.specs.Code.{code}
use Rattle.bites_spec.specs.Look.{is_word_byte}
use Rattle.bites_spec.specs.Walks.{IsNew}
use Rattle.bites_spec.specs.Template.{Part, Cuts, IsName, EndsWord}

-- the template is this part, and then what the rest is cut into
abbrev pub CutsFirst : Bool → List ℕ → Part → List ℕ → Type 0
CutsFirst any template part rest = (parts : List Part) → Cuts any rest parts → Cuts any template (part ∷ parts)

-- the template is these parts, and then what the rest is cut into
abbrev pub CutsFront : Bool → List ℕ → List Part → List ℕ → Type 0
CutsFront any template front rest = (parts : List Part) → Cuts any rest parts → Cuts any template (front ++ parts)

-- no name in braces stands here, after the opening brace
abbrev pub NoName : Bool → List ℕ → Type 0
NoName any inside = (word tail : List ℕ) → inside ≡ word ++ code "}" ∷ tail → IsNew (code "}") word → IsName any word → ⊥

-- this name stands here, up to the first closing brace
pub record StandsInBraces (any : Bool) (inside word : List ℕ) : Type 0 where
  pub whole : inside ≡ word ++ code "}" ∷ drop (length word + 1) inside
  pub first : IsNew (code "}") word
  pub named : IsName any word

-- the longest run of word bytes at the start
pub record IsWordAt (bytes word : List ℕ) : Type 0 where
  pub whole : bytes ≡ word ++ drop (length word) bytes
  pub word_bytes : list_all is_word_byte word ≡ true
  pub ends : EndsWord (drop (length word) bytes)

-- at i stands the first closing brace
pub record IsFirstBrace (bytes : List ℕ) (i : ℕ) : Type 0 where
  pub whole : bytes ≡ take i bytes ++ code "}" ∷ drop (i + 1) bytes
  pub first : IsNew (code "}") (take i bytes)
