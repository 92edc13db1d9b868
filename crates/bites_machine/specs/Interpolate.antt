-- Templates as the code cuts them.
use Rattle.std.specs.Prelude.{◌≡◌, ◌<◌, ℕ, true, List, [], ◌∷◌, ◌++◌, length, map, IsUtf8, ◌⊎◌}
use Rattle.std.specs.Str.{IsValidUpTo}
use Rattle.bites_spec.specs.Template as template
use Rattle.bites_spec.specs.Cutting.{CutsFront}
use Rattle.bites_machine.specs.declared.interpolate.Part.{Part}
use Rattle.bites_machine.specs.declared.interpolate.Part.TheVariants.{Text, Name}

-- the parts of the specification that a part of the code represents
abbrev pub parts_in : Part → List template.Part
parts_in (Text text) = map template.byte text.now
parts_in (Name word) = template.name word.now ∷ []

-- the part begins the template, and this is the rest, which is shorter
pub record CutsPart (template : List ℕ) (part : Part) (rest : List ℕ) : Type 0 where
  pub cuts : CutsFront true template (parts_in part) rest
  pub shorter : length rest < length template

-- the bytes are UTF-8, or the text is their longest prefix that is
abbrev pub IsTextFront : (bytes text behind : List ℕ) → Type 0
IsTextFront bytes text behind =
    (bytes ≡ text ++ behind) × IsUtf8 text × ((behind ≡ []) ⊎ IsValidUpTo bytes (length text))

-- this byte is the first
abbrev pub BeginsWith : ℕ → List ℕ → Type 0
BeginsWith b bytes = (tail : List ℕ) × (bytes ≡ b ∷ tail)
