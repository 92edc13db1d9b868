-- Who uses the rows of a slot table.
use Rattle.std.specs.Prelude.{◌≡◌, ◌≢◌, ℕ, ◌+◌, ◌<◌, ◌≤◌, ◌⊎◌, List, ◌∷◌, take, length, replicate, None, ◌==◌, slice_index, count_by, sum}
use Rattle.bites_spec.specs.Walks.{Among}
use Rattle.bites_machine.specs.SlotTable.{Pool, slots_at, with_pending}

-- Each row counts these users, and row 0 is empty.
pub record IsUsed (pool : Pool) (users : List ℕ) : Type 0 where
  pub ref_counts : (row : ℕ) → row ≢ 0 → slice_index pool.ref_counts row ≡ count_by (λ user. user == row) users
  pub known : (row : ℕ) → Among users row → row < length pool.ref_counts
  pub rows : length pool.rows ≡ length pool.ref_counts
  pub nothing : slots_at pool 0 ≡ replicate pool.slots_per_row None
  pub wide : (row : ℕ) → Among users row → length (slots_at pool row) ≡ pool.slots_per_row

-- row 0 and the rows that have users are unchanged
abbrev pub KeepsRows : Pool → Pool → Type 0
KeepsRows old new = (row : ℕ) → (row ≡ 0) ⊎ (0 < slice_index old.ref_counts row) → slots_at new row ≡ slots_at old row

-- the rows of these users are unchanged
abbrev pub KeepsOf : List ℕ → Pool → Pool → Type 0
KeepsOf users old new = (row : ℕ) → Among users row → slots_at new row ≡ slots_at old row

-- the rows that are used are unchanged, and the size of the table; at most one user more is counted
pub record KeepsTable (old new : Pool) : Type 0 where
  pub kept : KeepsRows old new
  pub sum : sum new.ref_counts ≤ sum old.ref_counts + 1
  pub rows : length new.ref_counts ≡ length old.ref_counts
  pub slots_per_row : new.slots_per_row ≡ old.slots_per_row
  pub max_slots : new.max_slots ≡ old.max_slots

-- A row for a thread that continues from another, with the slots that were pending on the path.
pub record ForksTo (place row pending_len fresh : ℕ) (old new : Pool) : Type 0 where
  pub users : (users : List ℕ) → IsUsed old (row ∷ users) → IsUsed new (fresh ∷ row ∷ users)
  pub slots : slots_at new fresh ≡ with_pending place (take pending_len old.pending) (slots_at old row)
  pub pending : new.pending ≡ old.pending
  pub table : KeepsTable old new
