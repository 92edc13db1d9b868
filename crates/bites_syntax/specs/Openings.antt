-- What stands after an opening parenthesis, and the state of the parser.
use Rattle.std.specs.Prelude.{◌≡◌, ◌+◌, Option, option_map, encode_utf8_all}
use Rattle.bites_spec.specs.Pattern as pattern
use Rattle.bites_spec.specs.Pattern.{Text, given}
use Rattle.bites_spec.specs.Measure.{opened_by}
use Rattle.bites_spec.specs.Group.{numbered, unnumbered}
use Rattle.bites_spec.specs.Reader as reading
use Rattle.bites_syntax.specs.declared.group.ParserState.{ParserState}
use Rattle.bites_syntax.specs.declared.group.Opened.{Opened}
use Rattle.bites_syntax.specs.declared.group.Opened.TheVariants.{Directive, Unnumbered, Numbered}
use Rattle.bites_syntax.specs.FlagsView.{flags_of}
use Rattle.bites_syntax.specs.Groups.{AreNames}

-- the state of the parser stands for a front of the definitions
pub record IsStateOf (state : ParserState) (g : pattern.Front) : Type 0 where
  pub flags : flags_of state.flags ≡ g.flags
  pub groups : state.groups ≡ g.groups
  pub names : AreNames state.names (given g.names)
  pub opened : state.opened ≡ opened_by g

-- what was opened, and the state after it, stand for what the reader returns from the front g on
abbrev pub IsOpened : Opened → ParserState → pattern.Front → reading.Opened → Type 0
IsOpened Directive state g x = (flags : pattern.Flags) × (x ≡ reading.directive flags) × IsStateOf state (record g { flags = flags })
IsOpened Unnumbered state g x = (inner : pattern.Front) × (x ≡ reading.group unnumbered inner) × IsStateOf state inner
IsOpened (Numbered name) state g x =
    (text : Option Text) × (inner : pattern.Front) × (x ≡ reading.group (numbered text) inner) × (name ≡ option_map encode_utf8_all text)
    × (inner.groups ≡ g.groups + 1) × IsStateOf state inner
