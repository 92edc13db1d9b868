-- The reader with as many steps as the text needs.
use Rattle.std.specs.Prelude.{length}
use Rattle.bites_spec.specs.Class.{Set}
use Rattle.bites_spec.specs.Pattern.{Text, Flags}
use Rattle.bites_spec.specs.Reader.{each}

-- all characters of the set that stand here, each followed by a gap, and the text after them
unfoldable pub each_of : Flags → Set → Text → Text × Text
each_of flags set t = each (length t) flags set t
