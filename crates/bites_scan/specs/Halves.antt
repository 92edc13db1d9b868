-- A set of bytes as two tables of columns: the low half of a byte gives the column, the high half a bit of it.
use Rattle.std.specs.Prelude.{◌≡◌, ℕ, ◌+◌, ◌*◌, ◌/◌, ◌<◌, Bool, List, [], ◌∷◌, slice_index, if◌then◌else◌, bit_and, bit_or, bit_xor}
use Rattle.std.specs.Int.{bit_at}
use Rattle.bites_scan.specs.declared.nibbles.Nibbles.{Nibbles}
use Rattle.bites_scan.specs.Lanes.{is_marked}

-- bit `row` of the cell says whether byte `first + 16 * row` is in the set
abbrev pub IsColumn : (ℕ → Bool) → ℕ → ℕ → Type 0
IsColumn has first cell = (row : ℕ) → row < 8 → bit_at cell row ≡ (if has (first + 16 * row) then 1 else 0)

-- the bit for each high half: 0 to 7, and again for 8 to 15
abbrev pub bits : List ℕ
bits = 1 ∷ 2 ∷ 4 ∷ 8 ∷ 16 ∷ 32 ∷ 64 ∷ 128 ∷ 1 ∷ 2 ∷ 4 ∷ 8 ∷ 16 ∷ 32 ∷ 64 ∷ 128 ∷ []

-- what the look-ups make of a byte: `low` is read for bytes below 128, `high` for the others
abbrev pub looked_up : List ℕ → List ℕ → ℕ → ℕ
looked_up low high byte =
    bit_and (bit_or (slice_index low (bit_and byte 143)) (slice_index high (bit_and (bit_xor byte 128) 143))) (slice_index bits (byte / 16))

-- whether a byte is in the set of two tables
abbrev pub nibbles_stop : Nibbles → ℕ → Bool
nibbles_stop set byte = is_marked (looked_up set.low set.high byte)
