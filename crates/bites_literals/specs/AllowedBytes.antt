-- Which bytes may stand at each offset of a text.
use Rattle.std.specs.Prelude.{◌≡◌, ◌↔◌, ℕ, ◌<◌, ◌≤◌, Bool, true, List, length, slice_index, slice_index_or}
use Rattle.std.specs.Int.{bit_at}

-- the byte may stand at this offset, by a bit for each offset
abbrev pub MayStand : List ℕ → (offset byte : ℕ) → Type 0
MayStand masks k byte = bit_at (slice_index_or masks byte 0) k ≡ 1

-- at the offsets from one to another stand bytes that may stand there
abbrev pub Fits : (masks hay : List ℕ) → (from to : ℕ) → Type 0
Fits masks hay from to = (k : ℕ) → from ≤ k → k < to → (k < length hay) × MayStand masks k (slice_index hay k)

-- the byte lies between the bounds of this offset
abbrev pub IsBetween : (least greatest : List ℕ) → (offset byte : ℕ) → Type 0
IsBetween least greatest k byte = (slice_index least k ≤ byte) × (byte ≤ slice_index greatest k)

-- at the offsets from one to another stand bytes that lie between their bounds
abbrev pub LieBetween : (least greatest hay : List ℕ) → (from to : ℕ) → Type 0
LieBetween least greatest hay from to = (k : ℕ) → from ≤ k → k < to → IsBetween least greatest k (slice_index hay k)

-- if the bytes of each offset are a range, they are those between its bounds
abbrev pub AreBounds : Bool → (masks least greatest : List ℕ) → Type 0
AreBounds are_ranges masks least greatest =
    are_ranges ≡ true → (k byte : ℕ) → k < 64 → byte < 256 → MayStand masks k byte ↔ IsBetween least greatest k byte
