-- Slots, rows of them, and what is pending, copied and written in them.
use Rattle.bites_machine.proofs.Library.{row_fits, common_steps, ◌≡◌, ℕ, zero, suc, ◌-◌, ◌<◌, List, [], ◌∷◌, ◌++◌, take, replicate, Some, None, refl, ap, ap₂, arith, slice_set, slice_index_or, take_all, rows_of, with_pending, with_pending, ◌+◌, ◌≤◌, ◌⊎◌, drop, length, append_assoc, length-append, length-drop, get_or-drop, length-take-le, drop_at, take_at, paste_more, paste, take-add, ◌*◌, Option, ◌∙◌, drop-drop, drop_all, length-set, append-nil}
use Rattle.std.proofs.lemmas.List.{places}

-- an empty row is filled up
pub filled : (w : ℕ) → take w [] ++ replicate (w - 0) None ≡ replicate {A = Option ℕ} w None
filled h = grind (arith, common_steps)

-- row 0 where a search begins
pub first_row : (w row_count : ℕ) → 0 < row_count →
    slice_index_or (rows_of w row_count (replicate w None)) 0 [] ≡ replicate w None
first_row w h some = grind (arith, common_steps, take_all)

abbrev Cells : Type 0
Cells = List (Option ℕ)

-- a slot after those that were written
read_above : (d s : Cells) (to k i : ℕ) (v : Option ℕ) → to + k ≤ i → to + k ≤ length d → k ≤ length s → slice_index_or (paste d to s k) i v ≡ slice_index_or d i v
read_above d s to k i v above room enough = grind (arith, places)

-- one slot more is copied, from a part that does not meet the one that is written
pub copied_more : (d xs : Cells) (from to w k : ℕ) (v : Option ℕ) → from + w ≤ length d → to + w ≤ length d → (from + w ≤ to) ⊎ (to + w ≤ from) → k < w →
    xs ≡ paste d to (drop from d) k → v ≡ slice_index_or xs (from + k) v → slice_set xs (to + k) v ≡ paste d to (drop from d) (k + 1)
copied_more d xs from to w k v source target apart lt is read = grind (arith, length-drop, read_above, get_or-drop, paste_more, places)

-- one slot more is copied from a list of as many
pub read_more : (d xs row : Cells) (k : ℕ) (v : Option ℕ) → k < length d → k < length row → xs ≡ paste d 0 row k → v ≡ slice_index_or row k v → slice_set xs k v ≡ paste d 0 row (k + 1)
read_more d xs row k v room enough is read =
    let place : k ≡ 0 + k = omega arith in
    ap₂ (λ (ys : Cells) (n : ℕ). slice_set ys n v) is place
    ∙ ap (λ (u : Option ℕ). slice_set (paste d 0 row k) (0 + k) u) read
    ∙ paste_more d 0 row k v (omega (arith, room)) enough

module _ (d : Cells) (from to w : ℕ) (source : from + w ≤ length d) (target : to + w ≤ length d) where
  parts : paste d to (drop from d) w ≡ take to d ++ (take w (drop from d) ++ drop (to + w) d)
  parts = append_assoc (take to d) (take w (drop from d)) (drop (to + w) d)

  -- the part that was copied
  pub copied_part : take w (drop to (paste d to (drop from d) w)) ≡ take w (drop from d)
  copied_part = grind (arith, common_steps, parts, drop_at, take_at, length-take-le)

  -- the part is overwritten
  pub part_anew : (zs : Cells) → length zs ≡ w → paste (paste d to (drop from d) w) to zs w ≡ take to d ++ (zs ++ drop (to + w) d)
  part_anew zs len = grind (arith, common_steps, length-append, parts, take_at, drop_at, append_assoc, length-take-le)

-- one more pending slot, after the others
pub with_pending-push : (place : ℕ) (ks : List ℕ) (k : ℕ) (slots : List (Option ℕ)) →
    with_pending place (ks ++ k ∷ []) slots ≡ slice_set (with_pending place ks slots) k (Some place)
with_pending-push place [] k slots = refl
with_pending-push place (j ∷ ks) k slots = with_pending-push place ks k (slice_set slots j (Some place))

pub length-with_pending : (place : ℕ) (ks : List ℕ) (slots : List (Option ℕ)) → length (with_pending place ks slots) ≡ length slots
length-with_pending place [] slots = refl
length-with_pending place (k ∷ ks) slots = length-with_pending place ks (slice_set slots k (Some place)) ∙ length-set slots k (Some place)

pub length-rows_of : (w n : ℕ) (cells : Cells) → length (rows_of w n cells) ≡ n
length-rows_of w zero cells = refl
length-rows_of w (suc n) cells = ap suc (length-rows_of w n (drop w cells))

row_step : (w r : ℕ) → suc r * w ≡ w + r * w
row_step w r = omega (arith)

-- a row is a part of the slots
pub row_at : (w n r : ℕ) (cells : Cells) → r < n → slice_index_or (rows_of w n cells) r [] ≡ take w (drop (r * w) cells)
row_at w zero r cells lt = absurd (omega arith)
row_at w (suc n) zero cells lt = grind arith
row_at w (suc n) (suc r) cells lt = grind (arith, common_steps, drop-drop, row_step, (row_at w n r (drop w cells)))

-- one row is written, or appended to all that are there
pub row_written : (w n r : ℕ) (cells row : Cells) → r < n → r * w ≤ length cells → length row ≡ w →
    rows_of w n (take (r * w) cells ++ (row ++ drop (r * w + w) cells)) ≡ slice_set (rows_of w n cells) r row
row_written w zero r cells row lt room len = absurd (omega arith)
row_written w (suc n) zero cells row lt room len = grind (arith, common_steps, take_at)
row_written w (suc n) (suc r) cells row lt room len =
    let rest : r * w ≤ length (drop w cells) = omega (arith, row_step w r, room, length-drop w cells) in
    let split : take (suc r * w) cells ++ (row ++ drop (suc r * w + w) cells) ≡ take w cells ++ (take (r * w) (drop w cells) ++ (row ++ drop (r * w + w) (drop w cells))) = grind (arith, common_steps, row_step, take-add, behind, drop-drop, append_assoc) in
    grind (arith, common_steps, take_at, drop_at, (row_written w n r (drop w cells) row))
  where
    behind : (w k m : ℕ) → m ≡ w + k → m + w ≡ w + (k + w)
    behind w k m e = omega (arith, e)

-- two rows do not meet
pub rows_apart : (w r s : ℕ) → r < s → r * w + w ≤ s * w
rows_apart w r s lt = row_fits r w s w lt (omega arith)

module _ (w row_count taken row place : ℕ) (ks : List ℕ) (cells : Cells) (known : row < taken) (len : length cells ≡ taken * w) where
  -- the row, with the place in some slots
  abbrev pub copy : Cells
  copy = with_pending place ks (take w (drop (row * w) cells))

  length-copy : length (with_pending place ks (take w (drop (row * w) cells))) ≡ w
  length-copy = grind (arith, common_steps, row_fits, length-with_pending, length-take-le)

  -- a row that was taken is the copy of another
  pub row_copied : (fresh : ℕ) → fresh < taken → taken ≤ row_count →
      rows_of w row_count (take (fresh * w) cells ++ (copy ++ drop (fresh * w + w) cells))
      ≡ slice_set (rows_of w row_count cells) fresh (with_pending place ks (slice_index_or (rows_of w row_count cells) row []))
  row_copied fresh new few = grind (arith, common_steps, row_fits, row_written, length-copy, row_at)

  -- a row that is appended to those that were taken is the copy of another
  pub row_pushed : taken < row_count →
      rows_of w row_count (cells ++ copy) ≡ slice_set (rows_of w row_count cells) taken (with_pending place ks (slice_index_or (rows_of w row_count cells) row []))
  row_pushed few =
      let behind : cells ++ copy ≡ take (taken * w) cells ++ (copy ++ drop (taken * w + w) cells) = grind (arith, common_steps, take_all, append-nil, drop_all) in
      grind (arith, common_steps, row_written, length-copy, row_at)
