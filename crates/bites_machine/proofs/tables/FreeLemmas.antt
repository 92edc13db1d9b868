-- The free rows of a slot table.
use Rattle.bites_machine.proofs.Library.{same_lists, row_fits, common_steps, Option, None, ◌≡◌, ◌≢◌, ℕ, ◌+◌, ◌-◌, ◌*◌, ◌<◌, ◌≤◌, ⊎_elim, inl, List, [], ◌∷◌, ◌++◌, take, length, sum, refl, sym, ◌∙◌, subst, arith, cases_eq, length-append, slice_set, slice_index, replicate, length-set, get_or-set_same, get_or-set_other, length-replicate, set-append_left, take-append-le, take-take, length-take-le, sum_by-append, sum_by-le-sum_by, Among, AllApart, IsNew, Among-left, Among-right, AllApart-append, AreFree, AreTaken, ref_counts_of, one_more, one_less, Among-append}
use Rattle.std.proofs.lemmas.List.{places}
use Rattle.bites_machine.proofs.tables.RowLemmas.{rows_apart}

-- new last elements of distinct ones
apart_push : (xs : List ℕ) (x : ℕ) → AllApart xs → IsNew x xs → AllApart (xs ++ x ∷ [])
apart_push [] x apart new = (λ h. absurd h, tt)
apart_push (y ∷ xs) x apart new = grind (arith, common_steps, Among-append, (apart_push xs x apart.1))

-- a row whose last user goes is free
pub freed : (free ref_counts : List ℕ) (row : ℕ) → AreFree free ref_counts → row < length ref_counts → row ≢ 0 → 0 < slice_index ref_counts row →
    AreFree (free ++ row ∷ []) (slice_set ref_counts row 0)
freed free ref_counts row are known other used = grind (arith, common_steps, get_or-set_other, length-set, get_or-set_same, Among-append, apart_push, length-append)

-- the last free row gets a user
pub taken : (free ref_counts : List ℕ) (row : ℕ) → AreFree (free ++ row ∷ []) ref_counts → AreFree free (slice_set ref_counts row 1)
taken free ref_counts row are =
    let mine = are.known row (Among-right free (row ∷ []) row (inl refl)) in
    record {
      first = get_or-set_other ref_counts row 0 1 0 (λ e. mine.1 (sym e)) ∙ are.first;
      some = rw (length-set ref_counts row 1) are.some;
      known = λ r h. let old = are.known r (Among-left free (row ∷ []) r h) in
          (rw (length-set ref_counts row 1) old.0, old.1, get_or-set_other ref_counts row r 1 0 (λ e. new r h e) ∙ old.2);
      apart = (AllApart-append free (row ∷ []) are.apart).0;
      number = grind (arith, common_steps, length-set, length-append);
    }
  where
    not_among : (xs : List ℕ) (x : ℕ) → AllApart (xs ++ x ∷ []) → Among xs x → ⊥
    not_among [] x apart h = h
    not_among (y ∷ xs) x apart h = ⊎_elim (λ (e : y ≡ x). apart.0 (Among-right xs (x ∷ []) y (inl (sym e)))) (λ l. not_among xs x apart.1 l) h

    new : (r : ℕ) → Among free r → r ≢ row
    new r h e = not_among free row are.apart (rw (← e) h)

pub length-ref_counts_of : (row_count : ℕ) (ref_counts : List ℕ) → length ref_counts ≤ row_count → length (ref_counts_of row_count ref_counts) ≡ row_count
length-ref_counts_of row_count ref_counts few = grind (arith, common_steps, length-append, length-replicate)

-- some row was never taken where none is free and there are fewer users than rows
pub some_left : (row_count : ℕ) (ref_counts : List ℕ) → AreFree [] ref_counts → length ref_counts ≤ row_count →
    sum (ref_counts_of row_count ref_counts) + 1 < length (ref_counts_of row_count ref_counts) → length ref_counts < row_count
some_left row_count ref_counts are few room = grind (arith, common_steps, sum_by-le-sum_by, sum_by-append)

-- row 0 alone is left where a search begins
pub first_left : (free ref_counts : List ℕ) → AreFree free ref_counts → take 1 ref_counts ≡ 0 ∷ []
first_left free ref_counts are = grind arith

-- a row that was never taken has no users
pub count_at : (row_count : ℕ) (ref_counts : List ℕ) (row : ℕ) → slice_index (ref_counts_of row_count ref_counts) row ≡ slice_index ref_counts row
count_at row_count ref_counts row = grind (arith, common_steps)

-- a row that has users, and row 0, was taken
pub is_taken : (row_count : ℕ) (free ref_counts : List ℕ) (row : ℕ) → AreFree free ref_counts → (row ≢ 0 → 0 < slice_index (ref_counts_of row_count ref_counts) row) → row < length ref_counts
is_taken row_count free ref_counts h are used = grind (arith, common_steps, count_at)

-- another count of a row that was taken
pub count_set : (row_count : ℕ) (ref_counts : List ℕ) (row v : ℕ) → row < length ref_counts → ref_counts_of row_count (slice_set ref_counts row v) ≡ slice_set (ref_counts_of row_count ref_counts) row v
count_set row_count ref_counts row v known = grind (arith, common_steps, length-set, set-append_left)

-- one row more is taken
pub count_pushed : (row_count : ℕ) (ref_counts : List ℕ) (v : ℕ) → length ref_counts < row_count → ref_counts_of row_count (ref_counts ++ v ∷ []) ≡ slice_set (ref_counts_of row_count ref_counts) (length ref_counts) v
count_pushed row_count ref_counts v few =
    same_lists _ _ (grind (arith, common_steps, length-set, length-append, length-replicate)) (λ k d h. grind (arith, places, get_or-set_same, cases_eq k (length ref_counts)))

-- one user more of a row that was taken
pub count_more : (row_count : ℕ) (ref_counts : List ℕ) (row n : ℕ) → row ≢ 0 → row < length ref_counts → n ≡ slice_index ref_counts row →
    ref_counts_of row_count (slice_set ref_counts row (n + 1)) ≡ one_more (ref_counts_of row_count ref_counts) row
count_more row_count ref_counts row n other known is = grind (arith, common_steps, count_set, count_at)

-- one user less of a row that was taken
pub count_less : (row_count : ℕ) (ref_counts : List ℕ) (row n : ℕ) → row ≢ 0 → row < length ref_counts → n ≡ slice_index ref_counts row →
    ref_counts_of row_count (slice_set ref_counts row (n - 1)) ≡ one_less (ref_counts_of row_count ref_counts) row
count_less row_count ref_counts row n other known is = grind (arith, common_steps, count_set, count_at)

-- a row that was taken has another count
pub taken_set : (row_count slots_per_row max_slots row v : ℕ) (cells : List (Option ℕ)) (ref_counts unused rest : List ℕ) → AreTaken row_count slots_per_row max_slots cells ref_counts unused →
    AreFree rest (slice_set ref_counts row v) → AreTaken row_count slots_per_row max_slots cells (slice_set ref_counts row v) rest
taken_set row_count slots_per_row max_slots row v cells ref_counts unused rest are free = grind (arith, common_steps, length-set)

-- row 0 stays where another row is written
pub first_stays : (row_count slots_per_row max_slots fresh : ℕ) (cells : List (Option ℕ)) (ref_counts unused : List ℕ) (old new row : List (Option ℕ)) → AreTaken row_count slots_per_row max_slots cells ref_counts unused →
    old ≡ cells → fresh ≢ 0 → fresh * slots_per_row ≤ length cells → new ≡ take (fresh * slots_per_row) old ++ row → take slots_per_row new ≡ replicate slots_per_row None
first_stays row_count slots_per_row max_slots fresh cells ref_counts unused old new row are same other there is =
    let behind : slots_per_row ≤ fresh * slots_per_row = omega (arith, rows_apart slots_per_row 0 fresh (omega (arith, other))) in
    grind (arith, common_steps, take-append-le, length-take-le, take-take)

-- one row more is taken
pub taken_more : (row_count slots_per_row max_slots : ℕ) (cells : List (Option ℕ)) (ref_counts : List ℕ) (more : List (Option ℕ)) → AreTaken row_count slots_per_row max_slots cells ref_counts [] →
    length ref_counts < row_count → length more ≡ slots_per_row → AreTaken row_count slots_per_row max_slots (cells ++ more) (ref_counts ++ 1 ∷ []) []
taken_more row_count slots_per_row max_slots cells ref_counts more are few len = grind (arith, common_steps, length-append, sum_by-append, take-append-le, row_fits)

-- the last of the free rows
pub last_free : (free ref_counts : List ℕ) (row : ℕ) (rest : List ℕ) → free ≡ rest ++ row ∷ [] → AreFree free ref_counts →
    (row < length ref_counts) × (row ≢ 0) × (slice_index ref_counts row ≡ 0)
last_free free ref_counts row rest is are = are.known row (subst (λ xs. Among xs row) (sym is) (Among-right rest (row ∷ []) row (inl refl)))
