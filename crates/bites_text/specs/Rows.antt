-- What may follow a first byte.
use Rattle.std.specs.Prelude.{ℕ, Bool, ◌&&◌, List, length, slice_index, nat_lt, if◌then◌else◌, ◌==◌}
use Rattle.bites_spec.specs.Range.{Range, in_range}
use Rattle.bites_spec.specs.Utf8.{continuation}

-- the range of the second byte after a first one, in the rows of two or more bytes
abbrev pub second_range : ℕ → Range
second_range first =
    if first == 0xE0 then (0xA0, 0xBF)
    else if first == 0xED then (0x80, 0x9F)
    else if first == 0xF0 then (0x90, 0xBF)
    else if first == 0xF4 then (0x80, 0x8F)
    else continuation

-- whether a byte of that range stands at the place
abbrev pub lies_at : Range → List ℕ → ℕ → Bool
lies_at r bytes i = nat_lt i (length bytes) && in_range r (slice_index bytes i)
