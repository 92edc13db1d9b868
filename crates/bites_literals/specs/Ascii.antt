-- Sets of bytes of ASCII.
use Rattle.std.specs.Prelude.{◌≡◌, ℕ}
use Rattle.std.specs.Int.{bit_at}
use Rattle.bites_literals.specs.declared.ascii.AsciiSet.{AsciiSet}

-- the set has the byte
abbrev pub Has : AsciiSet → ℕ → Type 0
Has s byte = bit_at s.bits byte ≡ 1
