-- Partitions of intervals of characters.
use Rattle.std.specs.Prelude.{◌≡◌, ℕ, ◌<◌, ◌≤◌, Bool, true, List, length, slice_index_or}
use Rattle.std.specs.List.Sorted.{IsStrictlyIncreasing}
use Rattle.bites_spec.specs.Range.{in_ranges}
use Rattle.bites_spec.specs.Program.{State, state_at, takes}
use Rattle.bites_table.specs.Bounds.{line_feeds, carriage_returns, word_bytes}
use Rattle.bites_table.specs.declared.distinctions.Distinctions.{Distinctions}
use Rattle.bites_table.specs.declared.blocks.Blocks.{Blocks}

-- the number at an index
abbrev pub at : List ℕ → ℕ → ℕ
at xs i = slice_index_or xs i 0

-- intervals begin at these numbers, which rise from 0 on
pub record AreIntervals (begins : List ℕ) : Type 0 where
  pub rising : IsStrictlyIncreasing begins
  pub first : at begins 0 ≡ 0
  pub some : 0 < length begins

-- the interval is the last one that begins at the number or below it
pub record IsInterval (begins : List ℕ) (number i : ℕ) : Type 0 where
  pub within : i < length begins
  pub begins_below : at begins i ≤ number
  pub next_above : (k : ℕ) → i < k → k < length begins → number < at begins k

-- intervals of one new block are of one old block
abbrev pub IsFiner : List ℕ → List ℕ → Type 0
IsFiner old new = (i j : ℕ) → i < length old → j < length old → at new i ≡ at new j → at old i ≡ at old j

-- the first characters of the intervals of a block pass the test alike
abbrev pub PassAlike : List ℕ → List ℕ → (ℕ → Bool) → Type 0
PassAlike begins blocks test =
    (i j : ℕ) → i < length begins → j < length begins → at blocks i ≡ at blocks j → test (at begins i) ≡ test (at begins j)

-- numbers lie below the number of blocks
pub record AreBlocks (b : Blocks) : Type 0 where
  pub some : 1 ≤ b.len
  pub of : (i : ℕ) → at b.of.items i < b.len
  pub moved : (m : ℕ) → at b.moved.items m < b.len

-- the blocks are split by whether the intervals begin with a character that passes the test
pub record IsSplitBy (begins : List ℕ) (test : ℕ → Bool) (old new : Blocks) : Type 0 where
  pub blocks : AreBlocks new
  pub len : length new.of.items ≡ length begins
  pub finer : IsFiner old.of.items new.of.items
  pub alike : PassAlike begins new.of.items test

-- In the middle of a split: blocks from `from` on are of intervals that moved, each from the block that they all moved from.
pub record IsMoved (from : ℕ) (old : List ℕ) (b : Blocks) : Type 0 where
  pub blocks : AreBlocks b
  pub len : length b.of.items ≡ length old
  pub some : 1 ≤ from
  pub up_to : from ≤ b.len
  pub kept : (i : ℕ) → at b.of.items i < from → at b.of.items i ≡ at old i
  pub moved : (i : ℕ) → from ≤ at b.of.items i → at b.moved.items (at old i) ≡ at b.of.items i
  pub apart : (m n : ℕ) → from ≤ at b.moved.items m → at b.moved.items m ≡ at b.moved.items n → m ≡ n

-- each state takes the first characters of the intervals of a block alike
abbrev pub AreSplit : List ℕ → List ℕ → List State → Type 0
AreSplit begins blocks ss = (q : ℕ) → PassAlike begins blocks (takes (state_at ss q))

-- and the kinds that are told apart have them alike
pub record AreSplitByKinds (begins blocks : List ℕ) (kinds : Distinctions) : Type 0 where
  pub line : kinds.line ≡ true → PassAlike begins blocks (in_ranges line_feeds)
  pub carriage_return : kinds.carriage_return ≡ true → PassAlike begins blocks (in_ranges carriage_returns)
  pub word : kinds.word ≡ true → PassAlike begins blocks (in_ranges word_bytes)

-- each block has a member, the first character of one of its intervals
pub record HaveMembers (begins blocks members : List ℕ) : Type 0 where
  pub below : (i : ℕ) → i < length begins → at blocks i < length members
  pub is : (m : ℕ) → m < length members → (i : ℕ) × (i < length begins) × (at blocks i ≡ m) × (at begins i ≡ at members m)
