-- The tree that the pattern of a log is read as.
use Rattle.std.proofs.Common.{◌≡◌, Ok, refl}
use Rattle.std.specs.Str.{chars}
use lib.Utf8.{encode}
use Rattle.ucd_derived.specs.Binary.{is_alphabetic}
use Rattle.ucd_derived.specs.AlphabeticRanges.{alphabetic_ranges}
use Rattle.ucd_table.specs.Rows.{in_ranges}
use Rattle.bites_spec.specs.RangesOf.{ranges_of}
use Rattle.bites_spec.specs.Reader.{read, inner}
use Rattle.bites_spec.specs.Settings.{no_flags}
use Rattle.clients.specs.Entry.{pattern, entry_tree}

-- reading the pattern computes; it uses the tables of Unicode for the letters of the names
pub pattern_read : read ranges_of 50 (chars pattern) no_flags ≡ Ok entry_tree
unfolding chars inner encode is_alphabetic in_ranges alphabetic_ranges
pattern_read = refl
