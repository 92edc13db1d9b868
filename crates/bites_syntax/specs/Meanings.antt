-- What an escape stands for.
use Rattle.std.specs.Prelude.{◌≡◌, Option, Some, None, MatchOption}
use Rattle.bites_spec.specs.Escape as escape
use Rattle.bites_spec.specs.Escape.{character, characters, assertion}
use Rattle.bites_syntax.specs.declared.escape.Meaning.{Meaning}
use Rattle.bites_syntax.specs.declared.escape.Meaning.TheVariants.{Character, Characters, Assertion}
use Rattle.bites_syntax.specs.declared.look.Look.{Look}
use Rattle.bites_syntax.specs.Ranges.{constant_set}
use Rattle.bites_syntax.specs.View.{look_of}

-- the meaning of the program stands for one of the definitions
abbrev pub IsMeaning : Meaning → escape.Meaning → Type 0
IsMeaning (Character c) m = m ≡ character c
IsMeaning (Characters set) m = m ≡ characters (constant_set set)
IsMeaning (Assertion l) m = m ≡ assertion (look_of l)

-- the assertion of the program stands for the meaning
abbrev pub IsLook : Look → escape.Meaning → Type 0
IsLook l m = m ≡ assertion (look_of l)

-- what was found stands for the meaning, or there is none
abbrev pub IsMeaningOf : Option Meaning → Option escape.Meaning → Type 0
IsMeaningOf found wanted = MatchOption found (wanted ≡ None) (λ x. (m : escape.Meaning) × (wanted ≡ Some m) × IsMeaning x m)
