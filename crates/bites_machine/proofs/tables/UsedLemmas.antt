-- The users of rows, when one comes or goes, and the threads that hold the rows.
use Rattle.bites_machine.proofs.Library.{common_steps, [], map, length-map, with_pending, ◌≡◌, ◌≢◌, ℕ, ◌+◌, ◌<◌, List, ◌∷◌, take, length, Option, refl, arith, eq-eqb, ◌==◌, slice_index, count_by, length-set, get_or-set_same, get_or-set_other, sum_by-cons, sum_by-set, Pool, one_less, with_counts, Takes, IsUsed, ForksTo, KeepsTable, slots_at, cases_eq, inr, cond, ◌++◌, sym, ap, ap₂, ◌∙◌, length-append, map-append, sum_by-append, Among, Among-left, Among-right, KeepsRows, thread_of, row_of, AddsThread, Thread, Scratch, Among-append}
use Rattle.bites_machine.proofs.tables.RowLemmas.{length-with_pending}

-- the number of users of a row, one user more
pub users_more : (row user : ℕ) (users : List ℕ) → user ≡ row → count_by (λ u. u == row) (user ∷ users) ≡ count_by (λ u. u == row) users + 1
users_more row user users e = grind (arith, common_steps, sum_by-cons, eq-eqb)

pub user_counted : (pool : Pool) (row : ℕ) (users : List ℕ) → IsUsed pool (row ∷ users) → row ≢ 0 → 0 < slice_index pool.ref_counts row
user_counted pool row users used other = omega (arith, used.ref_counts row other, users_more row row users refl)

-- a row without users gets one, and new contents
pub record Places (fresh : ℕ) (row : List (Option ℕ)) (old new : Pool) : Type 0 where
  pub users : (users : List ℕ) → IsUsed old users → IsUsed new (fresh ∷ users)
  pub slots : slots_at new fresh ≡ row
  pub table : KeepsTable old new

pub placed : (fresh : ℕ) (slots : List (Option ℕ)) (old new : Pool) → Takes fresh slots old new → length old.rows ≡ length old.ref_counts →
    length slots ≡ old.slots_per_row → Places fresh slots old new
placed fresh slots old new takes even wide = grind (arith, common_steps, length-map, get_or-set_same, users_more, get_or-set_other, cases_eq, length-set, sum_by-set, sum_by-cons)

-- a thread goes on with a row of its own
pub copied : (place row pending_len fresh : ℕ) (old new : Pool) →
    Takes fresh (with_pending place (take pending_len old.pending) (slots_at old row)) old new →
    length old.rows ≡ length old.ref_counts → length (slots_at old row) ≡ old.slots_per_row → ForksTo place row pending_len fresh old new
copied place row pending_len fresh old new takes even wide = grind (arith, common_steps, placed, length-with_pending)

-- a thread that is over releases its row
pub released : (row : ℕ) (users : List ℕ) (pool : Pool) → IsUsed pool (row ∷ users) → IsUsed (with_counts (one_less pool.ref_counts row) pool) users
released row users pool used = grind (arith, common_steps, get_or-set_same, cases_eq, get_or-set_other, users_more, sum_by-cons)

-- how often a row is used
abbrev pub uses : ℕ → List ℕ → ℕ
uses r users = count_by (λ u. u == r) users

-- the same users in another order
pub reordered : (pool : Pool) (xs ys : List ℕ) → IsUsed pool xs → ((r : ℕ) → uses r ys ≡ uses r xs) → ((r : ℕ) → Among ys r → Among xs r) → IsUsed pool ys
reordered pool xs ys used same within = record {
  ref_counts = λ r other. used.ref_counts r other ∙ sym (same r);
  known = λ r h. used.known r (within r h);
  rows = used.rows;
  nothing = used.nothing;
  wide = λ r h. used.wide r (within r h);
}

pub uses-cons : (r u : ℕ) (users : List ℕ) → uses r (u ∷ users) ≡ cond (u == r) 1 0 + uses r users
uses-cons r u users = sum_by-cons (λ v. cond (v == r) 1 0) u users

pub uses-append : (r : ℕ) (xs ys : List ℕ) → uses r (xs ++ ys) ≡ uses r xs + uses r ys
uses-append r xs ys = sum_by-append (λ v. cond (v == r) 1 0) xs ys

-- a user is counted
pub counted_user : (r : ℕ) (users : List ℕ) → Among users r → 0 < uses r users
counted_user r [] h = absurd h
counted_user r (u ∷ users) h = grind (arith, common_steps, users_more, uses-cons, (counted_user r users))

-- the row of a user is 0, or is counted
pub row_kept : (old new : Pool) (users : List ℕ) → IsUsed old users → KeepsRows old new → (r : ℕ) → Among users r → slots_at new r ≡ slots_at old r
row_kept old new users used kept r h = grind (arith, common_steps, counted_user, cases_eq)

-- threads whose rows are kept have the slots that they had
pub threads_kept : (old new : Pool) (ts : List Thread) → ((r : ℕ) → Among (map row_of ts) r → slots_at new r ≡ slots_at old r) → map (thread_of new) ts ≡ map (thread_of old) ts
threads_kept old new [] kept = refl
threads_kept old new (t ∷ ts) kept = grind (arith, common_steps, (threads_kept old new ts))

-- a thread is appended to the others
pub puts_in : (place target pending_len fresh : ℕ) (t : Thread) (old new : Scratch) → ForksTo place t.row pending_len fresh old.rows new.rows →
    new.next.threads ≡ old.next.threads ++ record { state = target; row = fresh; start = t.start } ∷ [] → new.next.room ≡ old.next.room →
    new.visited_set ≡ old.visited_set → new.stack ≡ old.stack → new.first_match ≡ old.first_match → AddsThread place target pending_len t old new
puts_in place target pending_len fresh t old new by threads room visited_set stack first_match = record {
  only = grind (arith, common_steps);
  users = λ others used.
      let rows : map row_of new.next.threads ≡ map row_of old.next.threads ++ fresh ∷ [] = grind (arith, common_steps, map-append) in
      rw rows (reordered _ _ _ (by.users (map row_of old.next.threads ++ others) used)
      (λ r. grind (arith, common_steps, uses-cons)) (λ r h. grind (arith, common_steps, Among-left, Among-append, Among-right)));
  next = λ others used.
      ap (map (thread_of new.rows)) threads ∙ map-append (thread_of new.rows) old.next.threads (record { state = target; row = fresh; start = t.start } ∷ [])
      ∙ ap₂ ◌++◌ (threads_kept old.rows new.rows _ (λ r h. row_kept _ new.rows _ used by.table.kept r (inr (Among-left _ _ _ h))))
      (ap (λ s. record { state = target; start = t.start; slots = s } ∷ []) by.slots);
  len = ap length threads ∙ length-append old.next.threads (record { state = target; row = fresh; start = t.start } ∷ []);
}
