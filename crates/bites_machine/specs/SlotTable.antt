-- A table of rows of slots, which threads share.
use Rattle.std.specs.Prelude.{◌≡◌, ◌≢◌, ℕ, zero, suc, ◌+◌, ◌-◌, ◌*◌, ◌<◌, ◌≤◌, ◌⊎◌, Bool, not, List, [], ◌∷◌, ◌++◌, take, drop, length, replicate, Option, None, Some, if◌then◌else◌, ◌==◌, slice_set, slice_index, slice_index_or, count_by, sum}
use Rattle.bites_spec.specs.Walks.{Among, AllApart}

-- the rows, how many users each has, the pending slots, how many slots a row has and may have
pub record Pool : Type 0 where
  pub rows : List (List (Option ℕ))
  pub ref_counts : List ℕ
  pub pending : List ℕ
  pub slots_per_row : ℕ
  pub max_slots : ℕ

-- the word of a slot where nothing was written: the greatest one
abbrev pub no_slot : ℕ
no_slot = 18446744073709551615

-- the slot that a word stands for
abbrev pub slot_of : ℕ → Option ℕ
slot_of word = if word == no_slot then None else Some word

-- the word that stands for a slot
abbrev pub word_of : Option ℕ → ℕ
word_of None = no_slot
word_of (Some place) = place

-- the slots of a row
abbrev pub slots_at : Pool → ℕ → List (Option ℕ)
slots_at pool row = slice_index_or pool.rows row []

-- the table with these counts
abbrev pub with_counts : List ℕ → Pool → Pool
with_counts ref_counts pool = record { rows = pool.rows; ref_counts = ref_counts; pending = pool.pending; slots_per_row = pool.slots_per_row; max_slots = pool.max_slots }

-- the table with these rows
abbrev pub with_rows : List (List (Option ℕ)) → Pool → Pool
with_rows rows pool = record { rows = rows; ref_counts = pool.ref_counts; pending = pool.pending; slots_per_row = pool.slots_per_row; max_slots = pool.max_slots }

-- the table with these pending slots
abbrev pub awaiting : List ℕ → Pool → Pool
awaiting pending pool = record { rows = pool.rows; ref_counts = pool.ref_counts; pending = pending; slots_per_row = pool.slots_per_row; max_slots = pool.max_slots }

-- the table with these slots in a row, which has one user
abbrev pub with_row : ℕ → List (Option ℕ) → Pool → Pool
with_row row slots pool = with_counts (slice_set pool.ref_counts row 1) (with_rows (slice_set pool.rows row slots) pool)

-- a row has a user, unless it is row 0
abbrev pub IsHeld : Pool → ℕ → Type 0
IsHeld pool row = row ≢ 0 → 0 < slice_index pool.ref_counts row

-- a row may have a user more: it has one, and fewer than there are rows
pub record CanShare (row : ℕ) (pool : Pool) : Type 0 where
  pub used : IsHeld pool row
  pub few : slice_index pool.ref_counts row < length pool.ref_counts

-- A row may be read with the first n pending slots: it has a user, and rows have these slots.
pub record CanRead (row n : ℕ) (pool : Pool) : Type 0 where
  pub used : IsHeld pool row
  pub few : n ≤ length pool.pending
  pub slots : (k : ℕ) → k < n → slice_index pool.pending k < pool.slots_per_row

-- the number of rows, the pending slots, and how many slots a row may have are unchanged
pub record KeepsRoom (old new : Pool) : Type 0 where
  pub rows : length new.ref_counts ≡ length old.ref_counts
  pub pending : new.pending ≡ old.pending
  pub max_slots : new.max_slots ≡ old.max_slots

-- so is how many slots a row has
pub record KeepsShape (old new : Pool) : Type 0 where
  pub room : KeepsRoom old new
  pub slots_per_row : new.slots_per_row ≡ old.slots_per_row

-- a search begins with n slots in each row: no row has users, and row 0 is empty
pub record IsSetUp (n : ℕ) (pool : Pool) : Type 0 where
  pub slots_per_row : pool.slots_per_row ≡ n
  pub nothing : slots_at pool 0 ≡ replicate n None
  pub even : length pool.rows ≡ length pool.ref_counts
  pub free : (row : ℕ) → slice_index pool.ref_counts row ≡ 0

-- a row that had no user has one, and these slots
pub record Takes (row : ℕ) (slots : List (Option ℕ)) (old new : Pool) : Type 0 where
  pub known : row < length old.ref_counts
  pub unused : slice_index old.ref_counts row ≡ 0
  pub other : row ≢ 0
  pub is : new ≡ with_row row slots old

-- n rows, of the given number of slots each
abbrev pub rows_of : ℕ → ℕ → List (Option ℕ) → List (List (Option ℕ))
rows_of slots_per_row zero cells = []
rows_of slots_per_row (suc n) cells = take slots_per_row cells ∷ rows_of slots_per_row n (drop slots_per_row cells)

-- the place is written to each of the pending slots
abbrev pub with_pending : ℕ → List ℕ → List (Option ℕ) → List (Option ℕ)
with_pending place [] slots = slots
with_pending place (k ∷ ks) slots = with_pending place ks (slice_set slots k (Some place))

-- a row may be copied at a place, with the first n pending slots: it may be read, and a row is left
pub record CanCopy (place row n : ℕ) (pool : Pool) : Type 0 where
  pub read : CanRead row n pool
  pub room : sum pool.ref_counts + 1 < length pool.ref_counts
  pub within : place < no_slot

-- n cells may be copied from one index to another of so many
pub record CanMove (from to n count : ℕ) : Type 0 where
  pub read : from + n ≤ count
  pub write : to + n ≤ count
  pub apart : (from + n ≤ to) ⊎ (to + n ≤ from)

-- one user more; row 0 is not counted
abbrev pub one_more : List ℕ → ℕ → List ℕ
one_more ref_counts row = if row == 0 then ref_counts else slice_set ref_counts row (slice_index ref_counts row + 1)

-- one user less; row 0 is not counted
abbrev pub one_less : List ℕ → ℕ → List ℕ
one_less ref_counts row = if row == 0 then ref_counts else slice_set ref_counts row (slice_index ref_counts row - 1)

-- a row that has users
abbrev pub is_used : ℕ → Bool
is_used count = not (count == 0)

-- the free rows: those without users, but for row 0, each once
pub record AreFree (free ref_counts : List ℕ) : Type 0 where
  pub first : slice_index ref_counts 0 ≡ 0
  pub some : 0 < length ref_counts
  pub known : (row : ℕ) → Among free row → (row < length ref_counts) × (row ≢ 0) × (slice_index ref_counts row ≡ 0)
  pub apart : AllApart free
  pub number : length free + count_by is_used ref_counts + 1 ≡ length ref_counts

-- the counts of all rows: those of the rows that were taken, and 0 for the others
abbrev pub ref_counts_of : ℕ → List ℕ → List ℕ
ref_counts_of row_count ref_counts = ref_counts ++ replicate (row_count - length ref_counts) 0

-- The rows that were taken: their slots, their counts, and which are free. Row 0 is empty.
pub record AreTaken (row_count slots_per_row max_slots : ℕ) (cells : List (Option ℕ)) (ref_counts unused : List ℕ) : Type 0 where
  pub free : AreFree unused ref_counts
  pub few : length ref_counts ≤ row_count
  pub slots : length cells ≡ length ref_counts * slots_per_row
  pub wide : slots_per_row ≤ max_slots
  pub first : take slots_per_row cells ≡ replicate slots_per_row None
