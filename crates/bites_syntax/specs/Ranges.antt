-- Lists of ranges.
use Rattle.std.specs.Prelude.{List, codes}
use Rattle.bites_spec.specs.Class.{Set, complement, members}
use Rattle.bites_spec.specs.Pattern.{one_of}
use Rattle.bites_spec.specs.Range.{Range}
use Rattle.bites_spec.specs.RangesOf.{ranges_of}
use Rattle.bites_syntax.specs.View.{named_of}
use Rattle.bites_syntax.specs.declared.range_list.Constant as constants
use Rattle.bites_syntax.specs.declared.range_list.Constant.TheVariants.{Named, Others, NoLineEnd}
use Rattle.bites_syntax.specs.declared.range_list.Kept.{Kept}
use Rattle.bites_syntax.specs.declared.range_list.Kept.TheVariants.{One, Two, Constant, Many}

-- the set that a constant stands for
abbrev pub constant_set : constants.Constant → Set
constant_set (Named name) = members (named_of name)
constant_set (Others name) = complement (members (named_of name))
constant_set NoLineEnd = complement (one_of (codes "\n\r"))

-- the ranges, wherever they are stored
abbrev pub kept_ranges : Kept → List Range
kept_ranges (One ranges) = ranges
kept_ranges (Two ranges) = ranges
kept_ranges (Constant set) = ranges_of (constant_set set)
kept_ranges (Many ranges) = ranges.items
