-- Searches for the first byte of a set.
use Rattle.std.specs.Prelude.{◌≡◌, ℕ, ◌+◌, ◌-◌, ◌/◌, ◌%◌, ◌<◌, ◌≤◌, Bool, true, false, List, length, slice_index, if◌then◌else◌}
use Rattle.std.specs.Int.{bit_at}

-- no byte from `from` up to `end` is in the set
abbrev pub NoneStops : (ℕ → Bool) → List ℕ → ℕ → ℕ → Type 0
NoneStops stops haystack from end = (k : ℕ) → from ≤ k → k < end → stops (slice_index haystack k) ≡ false

-- `end` is the first offset from `from` on whose byte is in the set, or the length of the haystack
pub record IsFirstStop (stops : ℕ → Bool) (haystack : List ℕ) (from end : ℕ) : Type 0 where
  pub onward : from ≤ end
  pub within : end ≤ length haystack
  pub passed : NoneStops stops haystack from end
  pub stopped : end < length haystack → stops (slice_index haystack end) ≡ true

-- of the `n` bytes from `at` on the first `run` are not in the set, and the next one, if there is one, is
pub record IsRun (stops : ℕ → Bool) (haystack : List ℕ) (at n run : ℕ) : Type 0 where
  pub short : run ≤ n
  pub passed : NoneStops stops haystack at (at + run)
  pub stopped : run < n → stops (slice_index haystack (at + run)) ≡ true

-- `at` is behind the last byte from `start` up to `end` that is in the set, or is the start
pub record IsLastStop (stops : ℕ → Bool) (haystack : List ℕ) (start end at : ℕ) : Type 0 where
  pub onward : start ≤ at
  pub within : at ≤ end
  pub passed : NoneStops stops haystack at end
  pub stopped : start < at → stops (slice_index haystack (at - 1)) ≡ true

-- of the `n` bytes from `at` on the last `tail` are not in the set, and the one before, if there is one, is
pub record IsTail (stops : ℕ → Bool) (haystack : List ℕ) (at n tail : ℕ) : Type 0 where
  pub short : tail ≤ n
  pub passed : NoneStops stops haystack (at + (n - tail)) (at + n)
  pub stopped : tail < n → stops (slice_index haystack (at + (n - tail) - 1)) ≡ true

-- each bit of these words, 64 bits a word, says whether a byte is in the set
abbrev pub AreWords : (ℕ → Bool) → List ℕ → Type 0
AreWords stops words =
    (byte : ℕ) → byte < 256 → bit_at (slice_index words (byte / 64)) (byte % 64) ≡ (if stops byte then 1 else 0)
