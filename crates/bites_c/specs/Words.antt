-- What a word of flags asks for.
use Rattle.std.specs.Prelude.{ℕ, List, Bool, false, bit_and, nat_eq, not}
use Rattle.bites_spec.specs.Pattern.{Flags}
use Rattle.bites_spec.specs.Settings.{Settings, settings}

-- whether the bit is set
abbrev pub has_bit : ℕ → ℕ → Bool
has_bit word bit = not (nat_eq (bit_and word bit) 0)

-- the flags whose bits are set: 1, 2, 4, 8, 16 and 32 are i, m, s, R, U and x
abbrev pub flags_in : ℕ → Flags
flags_in word = record {
  case_insensitive = has_bit word 1;
  multi_line = has_bit word 2;
  dot_matches_new_line = has_bit word 4;
  crlf = has_bit word 8;
  swap_greed = has_bit word 16;
  ignore_whitespace = has_bit word 32;
}

-- whether searches find the longest match, and whether dropped groups are kept
abbrev pub longest_in : ℕ → Bool
longest_in word = has_bit word 64

abbrev pub keeps_in : ℕ → Bool
keeps_in word = has_bit word 128

-- whether searches are over texts
abbrev pub text_in : ℕ → Bool
text_in word = has_bit word 256

-- the settings that a pattern, a word and two limits ask for: no table is made, and searches look for no literal
abbrev pub asked : List ℕ → ℕ → ℕ → ℕ → Settings
asked pattern word size_limit nest_limit = settings pattern (flags_in word) size_limit nest_limit 0 (keeps_in word) (longest_in word) false
