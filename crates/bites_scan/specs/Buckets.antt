-- Three bytes of each literal in eight buckets. Two tables of 16 cells say for each byte in which buckets it is.
use Rattle.std.specs.Prelude.{◌≡◌, ℕ, ◌+◌, ◌/◌, ◌<◌, length, slice_index, bit_and}
use Rattle.std.specs.Int.{bit_at}
use Rattle.bites_scan.specs.declared.buckets.Buckets.{Buckets}
use Rattle.bites_scan.specs.declared.fingerprints.Fingerprints.{Fingerprints}
use Rattle.bites_scan.specs.Literal.{Needle, folding}

-- the buckets of a byte, as bits: those of both of its cells
abbrev pub buckets_of : Buckets → ℕ → ℕ
buckets_of t byte = bit_and (slice_index t.low (bit_and byte 15)) (slice_index t.high (byte / 16))

-- the byte is in this bucket
abbrev pub IsIn : Buckets → ℕ → ℕ → Type 0
IsIn t bucket byte = bit_at (buckets_of t byte) bucket ≡ 1

-- what was in a bucket is still there
abbrev pub StaysIn : Buckets → Buckets → Type 0
StaysIn old new = (bucket byte : ℕ) → byte < 256 → IsIn old bucket byte → IsIn new bucket byte

-- the byte may stand at this place of the literal; behind its end any byte may
abbrev pub MayStand : Needle → ℕ → ℕ → Type 0
MayStand n place byte = place < length n.bytes → folding n.caseless byte ≡ folding n.caseless (slice_index n.bytes place)

-- each byte that may stand at this place of the literal is in this bucket
abbrev pub HoldsPlace : Buckets → ℕ → Needle → ℕ → Type 0
HoldsPlace t bucket n place = (byte : ℕ) → byte < 256 → MayStand n place byte → IsIn t bucket byte

-- one bucket has three places of the literal, one after another
pub record Knows (f : Fingerprints) (n : Needle) : Type 0 where
  pub bucket : ℕ
  pub first : HoldsPlace f.first bucket n f.place
  pub second : HoldsPlace f.second bucket n (f.place + 1)
  pub third : HoldsPlace f.third bucket n (f.place + 2)
