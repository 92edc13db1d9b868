-- Which of 64 literals may occur at an offset, by the hash of the three bytes there.
use Rattle.std.specs.Prelude.{◌≡◌, ℕ, ◌+◌, ◌*◌, ◌%◌, ◌<◌, ◌≤◌, List, length, slice_index, bit_or}
use Rattle.std.specs.Int.{bit_at}
use Rattle.bites_scan.specs.declared.shortlist.Shortlist.{Shortlist}
use Rattle.bites_scan.specs.Literal.{Needle}

-- the hash of three bytes, the same for both cases of a letter
abbrev pub hash_of : ℕ → ℕ → ℕ → ℕ
hash_of a b c = (bit_or a 32 + 5 * bit_or b 32 + 25 * bit_or c 32) % 256

-- the hash of the three bytes from an offset on
abbrev pub hash_at : List ℕ → ℕ → ℕ
hash_at bytes at = hash_of (slice_index bytes at) (slice_index bytes (at + 1)) (slice_index bytes (at + 2))

-- the literal with this number is listed under the hash of its first three bytes; a shorter one under each hash, and for the end
pub record Lists (s : Shortlist) (n : Needle) (number : ℕ) : Type 0 where
  pub at_end : length n.bytes < 3 → bit_at s.short number ≡ 1
  pub by_hash : (hash : ℕ) → hash < 256 → (3 ≤ length n.bytes → hash ≡ hash_at n.bytes 0) → bit_at (slice_index s.by_hash hash) number ≡ 1
