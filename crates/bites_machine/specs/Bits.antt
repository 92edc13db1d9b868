-- Summaries that are stored with a list, so that it need not be walked.
use Rattle.std.specs.Prelude.{◌≡◌, ℕ, ◌<◌, ◌≤◌, ◌/◌, ◌%◌, ◌-◌, Bool, true, List, ◌==◌, if◌then◌else◌, length, slice_index}
use Rattle.std.specs.Int.{bit_at}
use Rattle.bites_spec.specs.Range.{Range, in_ranges}

-- the bit of that number is 1
abbrev pub has_bit : ℕ → ℕ → Bool
has_bit bits n = bit_at bits n == 1

-- a bit for each ASCII character, 64 in a word: whether it lies in one of the ranges
abbrev pub HasAscii : List ℕ → List Range → Type 0
HasAscii words ranges = (c : ℕ) → c < 128 → has_bit (slice_index words (c / 64)) (c % 64) ≡ in_ranges ranges c

-- whether one of the ranges may have a character past ASCII
abbrev pub ReachesPast : Bool → List Range → Type 0
ReachesPast reaches ranges = (c : ℕ) → 128 ≤ c → in_ranges ranges c ≡ true → reaches ≡ true

-- all targets; two of them are stored inline
abbrev pub all_targets : ℕ → List ℕ → List ℕ → List ℕ
all_targets len ends list = if len == 2 then ends else list

-- the length of the list, and its first and its last number, if it has one
pub record HasEnds (len : ℕ) (ends numbers : List ℕ) : Type 0 where
  pub len_is : len ≡ length numbers
  pub first : 0 < len → slice_index ends 0 ≡ slice_index numbers 0
  pub last : 0 < len → slice_index ends 1 ≡ slice_index numbers (len - 1)
