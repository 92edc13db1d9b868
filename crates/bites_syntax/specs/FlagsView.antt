-- The flags of the program as those of the definitions.
use Rattle.bites_spec.specs.Pattern as pattern
use Rattle.bites_syntax.specs.declared.flags.Flags.{Flags}

-- the flags in force
abbrev pub flags_of : Flags → pattern.Flags
flags_of f = record {
  case_insensitive = f.case_insensitive;
  multi_line = f.multi_line;
  dot_matches_new_line = f.dot_matches_new_line;
  crlf = f.crlf;
  swap_greed = f.swap_greed;
  ignore_whitespace = f.ignore_whitespace;
}
