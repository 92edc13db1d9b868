-- The other cases of letters.
use Rattle.std.specs.Prelude.{◌+◌, ◌-◌, ◌&&◌, ◌||◌}
use Rattle.bites_spec.specs.Class.{Set, is_lower, is_upper}

-- the other cases of the ASCII letters in a set
abbrev pub other_case : Set → Set
other_case a c = (is_lower c && a (c - 32)) || (is_upper c && a (c + 32))
