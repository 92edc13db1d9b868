-- A walk that stops at the states which take characters is one for each character.
use Rattle.bites_table.proofs.Library.{common_steps, append-nil, State, Program, state_at, targets_over, ◌≡◌, ℕ, Bool, suc, List, [], ◌∷◌, ◌++◌, map, Option, append_assoc, arith, Walking, WalksTo, visited, stepped}
use Rattle.bites_table.proofs.Words.{Kind, leads_by, Thread, thread_with, Source, threads_by, takers_by, taken, over, AssertsAs}
use Rattle.bites_table.proofs.WalkLemmas.{walks_by}

-- one more thread
pub taken-more : (p : Program) (o : Option ℕ) (ts : List (Thread Source)) (t : Thread Source) (st : State) → st ≡ state_at p.states t.state →
    taken p o ts ++ map (thread_with t.row) (targets_over o st) ≡ taken p o (ts ++ t ∷ [])
taken-more p o [] t st e = grind (arith, common_steps, append-nil, append_assoc)
taken-more p o (u ∷ ts) t st e = grind (arith, common_steps, append-nil, append_assoc, (taken-more p o ts t st e))

module _ (cuts : Bool) (p : Program) (k a : Kind) (o : Option ℕ) (alike : AssertsAs p k a o) where
  abbrev next_is : Walking (Thread Source) → ℕ → List (Thread Source) → List (Thread Source) → Walking (Thread Source)
  next_is w q rest next = record { stack = rest; seen = q ∷ w.seen; next = next; first_match = w.first_match; looks = suc w.looks }

  visited_over : (st : State) (t : Thread Source) (rest : List (Thread Source)) (w : Walking (Thread Source)) → st ≡ state_at p.states t.state →
      visited (threads_by cuts (leads_by k o)) st t rest (over p o w) ≡ over p o (visited (takers_by cuts k a) st t rest w)
  unfolding visited
  visited_over st t rest w e = grind (arith, common_steps, taken-more)

  stepped_over : (stack : List (Thread Source)) (w : Walking (Thread Source)) →
      stepped (threads_by cuts (leads_by k o)) p stack (over p o w) ≡ over p o (stepped (takers_by cuts k a) p stack w)
  unfolding stepped
  stepped_over stack w = grind (arith, common_steps, visited_over)

  -- such a walk, as that of a character
  pub walks_over : (w v : Walking (Thread Source)) → WalksTo (takers_by cuts k a) p w v → WalksTo (threads_by cuts (leads_by k o)) p (over p o w) (over p o v)
  walks_over = walks_by p (takers_by cuts k a) (threads_by cuts (leads_by k o)) (over p o) (λ w. stepped_over w.stack w)
