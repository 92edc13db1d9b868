-- A search that is resumed: its threads are few, and they are loaded one by one, each with a row of its own.
use Rattle.bites_machine.proofs.Library.{common_steps, ◌≡◌, ℕ, ◌+◌, ◌<◌, ◌≤◌, ⊎_elim, inl, inr, Bool, List, [], ◌∷◌, ◌++◌, map, drop, length, Option, refl, sym, ap, ◌∙◌, subst, arith, append_assoc, slice_index_or, length-map, map-append, Among, Program, IsWellFormed, Record, Fit, HasRoomFor, Pool, KeepsRoom, states_of, Listed, IsUsed, walk_state, thread_of, row_of, with_table, HasRoom, HasReached, InvariantBetweenSteps, row_in, thread_in, Thread, Scratch, RegisterThread, Among-append, MachineThread, Among-under, Counted}
use Rattle.bites_machine.proofs.tables.UsedLemmas.{Places, uses, uses-cons, uses-append, reordered, row_kept, threads_kept}
use Rattle.bites_machine.proofs.model.MachineSearch.{searched_placed, place_within}
use Rattle.bites_machine.proofs.model.MachineCounts.{searched_few, searched_known, searched_visits}

-- One thread more is loaded: it has a row of its own, and the rows of the others are kept.
module _ (registers : List (Option ℕ)) (width start : ℕ) (old new : Pool) (list : List Thread) (fresh : ℕ) (t : RegisterThread) (by : Places fresh (row_in registers width t.register) old new) (used : IsUsed old (map row_of list)) where
  abbrev loaded : Thread
  loaded = record { state = t.state; row = fresh; start = start }

  rows_are : map row_of (list ++ loaded ∷ []) ≡ map row_of list ++ fresh ∷ []
  rows_are = map-append row_of list (loaded ∷ [])

  pub loaded_used : IsUsed new (map row_of (list ++ loaded ∷ []))
  loaded_used =
      subst (IsUsed new) (sym rows_are) (reordered _ _ _ (by.users (map row_of list) used)
      (λ r. let nothing : uses r [] ≡ 0 = refl in omega (arith, uses-append r (map row_of list) (fresh ∷ []), uses-cons r fresh [], uses-cons r fresh (map row_of list)))
      (λ r h. ⊎_elim (λ a. inr a) (λ (b : Among (fresh ∷ []) r). ⊎_elim (λ e. inl e) (λ n. absurd n) b) (Among-append _ _ _ h)))

  loaded_threads : map (thread_of new) (list ++ loaded ∷ []) ≡ map (thread_of old) list ++ thread_in start registers width t ∷ []
  loaded_threads = grind (arith, map-append, threads_kept, row_kept)

  -- the threads that are loaded, before those that are not
  pub loaded_more : (ts : List RegisterThread) (i : ℕ) (d : RegisterThread) → i < length ts → t ≡ slice_index_or ts i d →
      map (thread_of old) list ++ map (thread_in start registers width) (drop i ts) ≡ map (thread_in start registers width) ts →
      map (thread_of new) (list ++ loaded ∷ []) ++ map (thread_in start registers width) (drop (i + 1) ts) ≡ map (thread_in start registers width) ts
  loaded_more ts i d lt is so_far = grind (arith, common_steps, loaded_threads, append_assoc)

-- what was loaded is the scratch of a search between two places
module _ (p : Program) (hay : List ℕ) (well : IsWellFormed p) (longest anchored earliest : Bool) (start : ℕ) (within : start ≤ length hay) (first : List (Option ℕ)) (fits : length first ≤ p.slots)
    (place : ℕ) (starts is_found : Bool) (walked : Record) (threads : List MachineThread) (slots : List (Option ℕ))
    (reached : HasReached p hay longest anchored earliest start first place starts is_found walked threads slots) where
  -- the threads lead to states, and there are no more of them than states
  known_threads : (t : MachineThread) → Among threads t → t.state < length p.states
  known_threads = grind (arith, common_steps, searched_known)

  pub few_threads : (n : ℕ) → length threads ≡ n → n ≤ length p.states
  few_threads n is = grind (arith, common_steps, searched_few)

  -- the place lies in the haystack
  pub place_reached : place ≤ length hay
  place_reached = rw (← reached.stands.place) (place_within _ _ _ _ fits _ _ _ within _ (searched_placed _ _ _ _ fits _ _ _ _ _ _ reached.searched))

  -- what holds between two places
  pub between_loaded : (counted : Counted) (fit : Fit) (scratch : Scratch) (list : Listed) (rows : Pool) (loaded : Listed) →
      counted.walked ≡ walked → p.states ≡ states_of counted.states.now → HasRoomFor fit p (length slots) → HasRoom fit scratch list → KeepsRoom scratch.rows rows → loaded.room ≡ list.room →
      length slots ≡ rows.slots_per_row → IsUsed rows (map row_of loaded.threads) → map (thread_of rows) loaded.threads ≡ threads →
      InvariantBetweenSteps place loaded (walk_state counted (with_table rows scratch) slots)
  between_loaded counted fit scratch list rows loaded same_record same has r kept list_room wide used is =
      let count = ap length same in
      record {
        visits = grind (arith, common_steps, searched_visits);
        room = grind (arith, common_steps);
        few = omega (arith, few_threads (length loaded.threads) (ap length (sym is) ∙ length-map loaded.threads (thread_of rows)), count);
        known = λ t h. omega (arith, known_threads (thread_of rows t) (rw (← is) (Among-under (thread_of rows) loaded.threads t h)), count);
        used = used;
        wide = wide;
      }
