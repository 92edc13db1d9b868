-- Bytes that may stand between the beginning of a match and an offset, by a flag for each byte.
use Rattle.std.specs.Prelude.{◌≡◌, ℕ, ◌+◌, ◌<◌, ◌≤◌, ◌⊎◌, Bool, true, false, List, length, slice_index, slice_index_or}

-- the byte is one of these
abbrev pub IsFlagged : List Bool → ℕ → Type 0
IsFlagged flags byte = slice_index_or flags byte false ≡ true

-- a byte of ASCII that is none of these stands before the offset, or it is the start
pub record IsBackOver (flags : List Bool) (hay : List ℕ) (start from at : ℕ) : Type 0 where
  pub onward : start ≤ at
  pub within : at ≤ length hay
  pub back : at ≤ from
  pub stands : (at ≡ start) ⊎ ((start < at) × ((k : ℕ) → k + 1 ≡ at → (slice_index hay k < 128) × (IsFlagged flags (slice_index hay k) → ⊥)))
