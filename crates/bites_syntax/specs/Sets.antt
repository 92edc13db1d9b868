-- The sets of characters that stand in runs.
use Rattle.std.specs.Char.{is_whitespace, is_ascii_digit}
use Rattle.bites_spec.specs.Class.{Set, single}
use Rattle.bites_spec.specs.Escape.{is_hex_digit, is_boundary_letter}
use Rattle.bites_syntax.specs.declared.cursor.Characters.{Characters}
use Rattle.bites_syntax.specs.declared.cursor.Characters.TheVariants.{Digit, HexDigit, WhiteSpace, BoundaryLetter, Dash}

-- the characters of a set
abbrev pub members_of : Characters → Set
members_of Digit = is_ascii_digit
members_of HexDigit = is_hex_digit
members_of WhiteSpace = is_whitespace
members_of BoundaryLetter = is_boundary_letter
members_of Dash = single 45
