-- The threads of a place, whose closures are explored one after the other.
use Rattle.bites_machine.proofs.Library.{common_steps, refl, ◌≡◌, ℕ, zero, suc, ◌<◌, ⊎_elim, inl, inr, List, [], ◌∷◌, ◌++◌, map, length, arith, slice_index_or, Among, Among-left, Among-right, Pool, IsUsed, WalkState, thread_of, row_of, users_of, ClosesThread, ClosesThreads, Position, Thread, Among-append}
use Rattle.bites_machine.proofs.refine.ClosureSteps.{keeps_through, states_kept}
use Rattle.bites_machine.proofs.tables.UsedLemmas.{reordered, threads_kept, uses-cons, uses-append}
use Rattle.bites_machine.proofs.model.MachineWalks.{walks_through}

-- a user after others, put before them
pub used_first : (pool : Pool) (xs : List ℕ) (row : ℕ) (rest : List ℕ) → IsUsed pool (xs ++ row ∷ rest) → IsUsed pool (row ∷ (xs ++ rest))
used_first pool xs row rest used =
    reordered _ _ _ used (λ r. omega (arith, uses-cons r row (xs ++ rest), uses-append r xs rest, uses-append r xs (row ∷ rest), uses-cons r row rest))
    (λ r h. ⊎_elim (λ (e : row ≡ r). Among-right xs (row ∷ rest) r (inl e))
    (λ l. ⊎_elim (λ (a : Among xs r). Among-left _ _ _ a) (λ (b : Among rest r). Among-right xs (row ∷ rest) r (inr b)) (Among-append _ _ _ l)) h)

-- what stands at an index is in the list
pub among_index : {A : Type 0} (xs : List A) (i : ℕ) (d : A) → i < length xs → Among xs (slice_index_or xs i d)
among_index [] i d lt = absurd (omega arith)
among_index (x ∷ xs) zero d lt = inl refl
among_index (x ∷ xs) (suc i) d lt = inr (among_index xs i d (omega arith))

module _ (here : Position) (threads : List Thread) where
  -- the first of those that are left
  pub user_first : (t : Thread) (rest : List Thread) (old new : WalkState) → ClosesThreads here threads (t ∷ rest) old new → IsUsed new.scratch.rows (users_of new.scratch t (map row_of rest))
  user_first t rest old new w = used_first new.scratch.rows (map row_of new.scratch.next.threads) t.row (map row_of rest) w.users

  -- one closure more was explored
  pub some_more : (t : Thread) (rest : List Thread) (old new last : WalkState) → ClosesThreads here threads (t ∷ rest) old new → ClosesThread here t new last → ClosesThreads here threads rest old last
  some_more t rest old new last w past =
      let used = user_first _ _ _ _ w in
      record {
        within_step = past.within_step;
        keeps = keeps_through _ _ _ _ w.keeps past.keeps;
        users = past.users (map row_of rest) used;
        walks = λ p is tail.
            let same : map (thread_of last.scratch.rows) rest ≡ map (thread_of new.scratch.rows) rest = grind (arith, common_steps, threads_kept) in
            rw same (walks_through _ _ _ _ _ _ _
            (w.walks p is tail) (past.walks p (states_kept _ _ _ w.keeps p.states is) (map row_of rest) used (map (thread_of new.scratch.rows) rest ++ tail)));
      }
