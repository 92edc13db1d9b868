-- The forms of a set, and what they stop at.
use Rattle.std.specs.Prelude.{◌≡◌, ℕ, ◌+◌, ◌-◌, ◌%◌, ◌<◌, Bool, false, not, ◌||◌, ◌==◌, nat_le, List, slice_index_or}
use Rattle.bites_scan.specs.declared.form.Form.{Form}
use Rattle.bites_scan.specs.declared.form.Form.TheVariants.{Never, One, Three, Range, Many}
use Rattle.bites_scan.specs.Halves.{nibbles_stop}

-- whether a search by this form stops at the byte
abbrev pub form_stops : Form → ℕ → Bool
form_stops Never byte = false
form_stops (One s) byte = byte == s.byte
form_stops (Three s) byte = byte == s.a || byte == s.b || byte == s.c
form_stops (Range s) byte = nat_le ((byte + (256 - s.first)) % 256) s.more
form_stops (Many s) byte = nibbles_stop s byte

-- two tests say the same of each byte
abbrev pub Agree : (ℕ → Bool) → (ℕ → Bool) → Type 0
Agree test other = (byte : ℕ) → byte < 256 → test byte ≡ other byte

-- a search by this form stops at the bytes whose flag is not set
abbrev pub StopsOutside : Form → List Bool → Type 0
StopsOutside form flags = Agree (form_stops form) (λ byte. not (slice_index_or flags byte false))
