-- Which runs of three bytes stand in a haystack, by their hashes.
use Rattle.std.specs.Prelude.{◌≡◌, ℕ, ◌+◌, ◌*◌, ◌/◌, ◌%◌, ◌<◌, List, length, slice_index, bit_or}
use Rattle.std.specs.Int.{bit_at}
use Rattle.bites_scan.specs.declared.trigrams.Trigrams.{Trigrams}

-- the hash of three bytes, the same for both cases of a letter
abbrev pub trigram_of : ℕ → ℕ → ℕ → ℕ
trigram_of a b c = (256 * bit_or a 32 + 16 * bit_or b 32 + bit_or c 32) % 4096

-- the hash of the three bytes from an offset on
abbrev pub trigram_at : List ℕ → ℕ → ℕ
trigram_at bytes at = trigram_of (slice_index bytes at) (slice_index bytes (at + 1)) (slice_index bytes (at + 2))

-- the hash is there
abbrev pub HasTrigram : Trigrams → ℕ → Type 0
HasTrigram t hash = bit_at (slice_index t.words (hash / 64)) (hash % 64) ≡ 1

-- the hash of each run of three bytes is there that lies before an offset
abbrev pub HasTrigramsUpTo : Trigrams → List ℕ → ℕ → Type 0
HasTrigramsUpTo t haystack end = (at : ℕ) → at + 2 < end → HasTrigram t (trigram_at haystack at)

-- those of the whole haystack are there
abbrev pub AreTrigramsOf : Trigrams → List ℕ → Type 0
AreTrigramsOf t haystack = HasTrigramsUpTo t haystack (length haystack)
