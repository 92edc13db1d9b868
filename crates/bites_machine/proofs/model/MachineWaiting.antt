-- The threads of the machine as the configurations that are pending in a depth-first walk, and what a thread has in its slots at the end of a run.
use Rattle.bites_spec.specs.Walks as walks
use Rattle.bites_machine.proofs.Library.{common_steps, ◌≡◌, ◌≢◌, ℕ, zero, suc, ◌+◌, ◌<◌, ◌≤◌, true, List, [], ◌∷◌, ◌++◌, map, take, Option, Some, None, refl, sym, ap, ap₂, ◌∙◌, arith, append_assoc, slice_set, replicate, range_with_len, append-nil, take-map-range_with_len, last_of, State, Program, Configuration, at, state_at, is_match, Run, write_of, last_write, writes, matches, slots, last_write-append, with_write, Bool, false, ◌||◌, length, option_map, inl, inr, true≢false, eqb-true, eq-eqb, ne_eqb, option_or, map-append, Among, Among-map, with_configuration, edges, IsWellFormed, is_same_configuration, leads, enough, Inside, unseen, fewer, enough_for_all, inside_on, same_is, same_refl, waiting, pending, pending-append, pending_seen, pending_visit_behind, run_away, run_match, first_among_cong_in, MachineThread as Thread, thread_on, moved, or_none}
use Rattle.bites_machine.proofs.model.PathLemmas.{edge_forward}
use Rattle.bites_machine.proofs.model.MachineWalks.{was_seen, LeadsBeside}

-- the slots from a on, after these writes
abbrev pub row : List (ℕ × ℕ) → ℕ → ℕ → List (Option ℕ)
row ws a n = map (last_write ws) (range_with_len a n)

row_empty : (a n : ℕ) → replicate n None ≡ row [] a n
row_empty a zero = refl
row_empty a (suc n) = ap (λ (l : List (Option ℕ)). None ∷ l) (row_empty (a + 1) n)

written_elsewhere : (ws : List (ℕ × ℕ)) (k i q : ℕ) → k ≢ q → last_write (ws ++ (k, i) ∷ []) q ≡ last_write ws q
written_elsewhere ws k i q apart = grind (arith, common_steps, last_write-append)

-- a write to a slot before them
row_below : (ws : List (ℕ × ℕ)) (k i a n : ℕ) → k < a → row (ws ++ (k, i) ∷ []) a n ≡ row ws a n
row_below ws k i a zero lt = refl
row_below ws k i a (suc n) lt = ap₂ ◌∷◌ (written_elsewhere ws k i a (omega arith)) (row_below ws k i (a + 1) n (omega arith))

row_write : (ws : List (ℕ × ℕ)) (i a n k : ℕ) → slice_set (row ws a n) k (Some i) ≡ row (ws ++ (a + k, i) ∷ []) a n
row_write ws i a zero k = refl
row_write ws i a (suc n) zero = grind (arith, common_steps, row_below, written_elsewhere, last_write-append)
row_write ws i a (suc n) (suc k) = grind (arith, common_steps, written_elsewhere, (row_write ws i (a + 1) n k))

one_write : (st : State) (i : ℕ) (ws : List (ℕ × ℕ)) (n : ℕ) → with_write st i (row ws 0 n) ≡ row (ws ++ write_of st i) 0 n
one_write h i ws n = grind (arith, common_steps, row_write, append-nil)

module _ (p : Program) where
  abbrev write_at : Configuration → List (ℕ × ℕ)
  write_at s = write_of (state_at p.states s.state) s.place

  -- the slots, with what the states of these configurations write, one after the other
  abbrev pub all_written : List (Option ℕ) → List Configuration → List (Option ℕ)
  all_written slots [] = slots
  all_written slots (s ∷ r) = all_written (with_write (state_at p.states s.state) s.place slots) r

  abbrev all_writes : List Configuration → List (ℕ × ℕ)
  all_writes [] = []
  all_writes (s ∷ r) = write_at s ++ all_writes r

  all_row : (ws : List (ℕ × ℕ)) (n : ℕ) (r : List Configuration) → all_written (row ws 0 n) r ≡ row (ws ++ all_writes r) 0 n
  all_row ws n [] = ap (λ (l : List (ℕ × ℕ)). row l 0 n) (sym (append-nil ws))
  all_row ws n (s ∷ r) = grind (arith, one_write, append_assoc, (all_row (ws ++ write_at s) n r))

  -- a match writes nothing
  match_writes : (st : State) (i : ℕ) → is_match st ≡ true → write_of st i ≡ []
  match_writes h i e = grind (arith, common_steps)

  writes_all : (s : Configuration) (r : List Configuration) → matches p (last_of s r) ≡ true → all_writes (s ∷ r) ≡ writes p s r
  writes_all s [] e = append-nil (write_at s) ∙ match_writes (state_at p.states s.state) s.place e
  writes_all s (t ∷ r) e = ap (λ (l : List (ℕ × ℕ)). write_at s ++ l) (writes_all t r e)

  -- from empty slots on, a run writes its first `width` slots
  pub run_writes : (width : ℕ) (r : Run) → width ≤ p.slots → matches p (last_of (at p.start r.start) r.configurations) ≡ true →
      all_written (replicate width None) (at p.start r.start ∷ r.configurations) ≡ take width (slots p r)
  run_writes width r le e =
      ap (λ (l : List (Option ℕ)). all_written l (at p.start r.start ∷ r.configurations)) (row_empty 0 _) ∙ all_row [] _ (at p.start r.start ∷ r.configurations)
      ∙ ap (λ (ws : List (ℕ × ℕ)). row ws 0 width) (writes_all _ _ e)
      ∙ sym (take-map-range_with_len (last_write (writes p (at p.start r.start) r.configurations)) 0 p.slots width le)

-- the value of a thread at a match: where it was started, and its slots
pub record Outcome : Type 0 where
  pub start : ℕ
  pub slots : List (Option ℕ)

abbrev pub outcome : Thread → Outcome
outcome t = record { start = t.start; slots = t.slots }

-- a match writes nothing
pub match_keeps : (st : State) (i : ℕ) (slots : List (Option ℕ)) → is_match st ≡ true → with_write st i slots ≡ slots
match_keeps h i slots e = grind (arith, common_steps, true≢false)

module _ (p : Program) (hay : List ℕ) where
  -- a thread with these slots that runs through these configurations
  abbrev pub worth : ℕ → List (Option ℕ) → List Configuration → Outcome
  worth start slots r = record { start = start; slots = all_written p slots r }

  -- a thread that waits at a place
  abbrev pub wait : ℕ → Thread → Configuration × (List Configuration → Outcome)
  wait i t = (at t.state i, worth t.start t.slots)

  abbrev pub wait_all : ℕ → List Thread → List (Configuration × (List Configuration → Outcome))
  wait_all i ts = map (wait i) ts

  -- the configurations of these states at a place
  abbrev pub marks : ℕ → List ℕ → Configuration → Bool
  marks i [] = λ s. false
  marks i (q ∷ seen) = with_configuration is_same_configuration (leads p hay) (matches p) (marks i seen) (at q i)

  marks_here : (i : ℕ) (seen : List ℕ) (q : ℕ) → marks i seen (at q i) ≡ was_seen hay false i p seen q
  marks_here i [] q = refl
  marks_here i (x ∷ seen) q = ap₂ ◌||◌ (grind (arith, common_steps, eq-eqb, eqb-true, ne_eqb, true≢false)) (marks_here i seen q)

  not_later : (i : ℕ) (q : ℕ) (s : Configuration) → i < s.place → is_same_configuration s (at q i) ≡ false
  not_later i q s lt = grind (arith, common_steps, same_is)

  waits_behind : (i j : ℕ) (ts : List Thread) → ((t : Thread) → Among ts t → i < j) → (w : Configuration × (List Configuration → Outcome)) → Among (wait_all j ts) w → i < w.0.place
  waits_behind i j ts behind w h = let m = Among-map (wait j) ts w h in rw (← m.2) (behind m.0 m.1)

  module _ (fin : Configuration → Bool) (fin_matches : (s : Configuration) → fin s ≡ true → matches p s ≡ true) where
    -- the first walk from a configuration, around those that were seen
    abbrev pub run : (Configuration → Bool) → Configuration → Option (List Configuration)
    run seen s = walks.first_walk is_same_configuration (leads p hay) fin (enough p hay) seen s

    -- the first success of those that wait
    abbrev pub pend : (Configuration → Bool) → List (Configuration × (List Configuration → Outcome)) → Option Outcome
    pend seen ws = pending is_same_configuration (leads p hay) fin same_is same_refl (enough p hay) seen ws

    pub pend-append : (seen : Configuration → Bool) (xs ys : List (Configuration × (List Configuration → Outcome))) → pend seen (xs ++ ys) ≡ option_or (pend seen xs) (pend seen ys)
    pend-append seen xs ys = pending-append is_same_configuration (leads p hay) fin same_is same_refl (enough p hay) seen xs ys

    -- one more waits, behind the others
    pub pend_push : (seen : Configuration → Bool) (i : ℕ) (ts : List Thread) (t : Thread) →
        pend seen (wait_all i (ts ++ t ∷ [])) ≡ option_or (pend seen (wait_all i ts)) (option_map (worth t.start t.slots) (run seen (at t.state i)))
    unfolding pending
    pend_push seen i ts t = ap (pend seen) (map-append (wait i) ts (t ∷ [])) ∙ pend-append _ _ _ ∙ ap (option_or (pend seen (wait_all i ts))) (or_none _)

    -- a configuration of a later place does not see what was visited at this one
    pub run_later : (i : ℕ) (seen : List ℕ) (s : Configuration) → i < s.place → run (marks i seen) s ≡ run (λ q. false) s
    run_later i [] s lt = refl
    run_later i (q ∷ seen) s lt = run_away _ _ _ same_is same_refl _ (λ t. i < t.place) (not_later i q) (λ s t lt h. omega (arith, edge_forward p hay s t h)) _ _ _ lt ∙ run_later i seen s lt

    pub pend_later : (i j : ℕ) (seen : List ℕ) (ts : List Thread) → ((t : Thread) → Among ts t → i < j) →
        pend (marks i seen) (wait_all j ts) ≡ pend (λ q. false) (wait_all j ts)
    unfolding pending
    pend_later i j seen ts behind = first_among_cong_in _ _ _ (λ w h. ap (option_map w.1) (run_later _ _ _ (waits_behind _ _ _ behind w h)))

    waiting_moved : (k start : ℕ) (slots : List (Option ℕ)) (s : Configuration) (qs : List Configuration) → ((q : Configuration) → Among qs q → q.place ≡ k) →
        waiting is_same_configuration (leads p hay) fin same_is same_refl s (worth start slots) qs
        ≡ wait_all k (map (thread_on start (with_write (state_at p.states s.state) s.place slots)) qs)
    waiting_moved k start slots s [] there = refl
    waiting_moved k start slots s (q ∷ qs) there =
        ap₂ ◌∷◌
        (ap (λ (n : ℕ). (at q.state n, worth start (with_write (state_at p.states s.state) s.place slots))) (there q (inl refl)))
        (waiting_moved k start slots s qs (λ x h. there x (inr h)))

    module _ (well : IsWellFormed p) (longest : Bool) (i j : ℕ) (within : i ≤ length hay) (seen : List ℕ) (next : List Thread) (t : Thread) (rest : List Thread)
        (behind : (u : Thread) → Among next u → i < j) where
      -- those that took the piece, and then those that are still to be walked
      abbrev waits : List Thread → List Thread → List (Configuration × (List Configuration → Outcome))
      waits over here = wait_all j over ++ wait_all i here

      -- a thread at a state that was visited is dropped
      pub pend_seen : was_seen hay longest i p seen t.state ≡ true → pend (marks i seen) (waits next (t ∷ rest)) ≡ pend (marks i seen) (waits next rest)
      pend_seen was =
          pend-append _ _ _ ∙ ap (option_or (pend (marks i seen) (wait_all j next)))
          (pending_seen _ _ _ _ _ (Inside p hay) (inside_on p hay well) (unseen p hay) (fewer p hay) _ _ _ _ _ (marks_here i seen t.state ∙ was))
          ∙ sym (pend-append _ _ _)

      module _ (new : was_seen hay longest i p seen t.state ≡ false) (inside : t.state < length p.states) where
        fresh : marks i seen (at t.state i) ≡ false
        fresh = marks_here i seen t.state ∙ new

        visit : fin (at t.state i) ≡ false →
            pend (marks i seen) (waits next (t ∷ rest))
            ≡ pend (marks i (t.state ∷ seen))
            (wait_all j next ++ (waiting is_same_configuration (leads p hay) fin same_is same_refl (at t.state i) (worth t.start t.slots) (leads p hay (at t.state i)) ++ wait_all i rest))
        visit goes =
            pending_visit_behind is_same_configuration (leads p hay) fin same_is same_refl (Inside p hay) (inside_on p hay well) (unseen p hay) (fewer p hay)
            (enough p hay) (marks i seen) (at t.state i) (worth t.start t.slots) (wait_all j next) (wait_all i rest)
            (inside, within) (enough_for_all p hay (marks i seen)) fresh goes
            (λ s. i < s.place) (not_later i t.state) (λ s t lt h. omega (arith, edge_forward p hay s t h)) (waits_behind i j next behind)

        no_end : is_match (state_at p.states t.state) ≡ false → fin (at t.state i) ≡ false
        no_end none = grind (arith, common_steps, true≢false)

        -- a thread that goes on at the place
        pub pend_gone : is_match (state_at p.states t.state) ≡ false → LeadsBeside hay longest i (state_at p.states t.state) →
            pend (marks i seen) (waits next (t ∷ rest))
            ≡ pend (marks i (t.state ∷ seen)) (waits next (moved hay longest i (state_at p.states t.state) t ++ rest))
        pend_gone none beside =
            visit (no_end none) ∙ ap (λ (l : List (Configuration × (List Configuration → Outcome))). pend (marks i (t.state ∷ seen)) (wait_all j next ++ l))
            (ap (λ (l : List (Configuration × (List Configuration → Outcome))). l ++ wait_all i rest) (waiting_moved _ _ _ _ _ beside)
            ∙ sym (map-append (wait i) (moved hay longest i (state_at p.states t.state) t) rest))

        -- a thread that takes the piece
        pub pend_taken : is_match (state_at p.states t.state) ≡ false → ((v : Configuration) → Among (edges hay (state_at p.states t.state) i) v → v.place ≡ j) →
            pend (marks i seen) (waits next (t ∷ rest))
            ≡ pend (marks i (t.state ∷ seen)) (waits (next ++ moved hay longest i (state_at p.states t.state) t) rest)
        pend_taken none over =
            visit (no_end none) ∙ ap (pend (marks i (t.state ∷ seen)))
            (ap (λ (l : List (Configuration × (List Configuration → Outcome))). wait_all j next ++ (l ++ wait_all i rest)) (waiting_moved _ _ _ _ _ over)
            ∙ sym (append_assoc (wait_all j next) (wait_all j (moved hay longest i (state_at p.states t.state) t)) (wait_all i rest))
            ∙ ap (λ (l : List (Configuration × (List Configuration → Outcome))). l ++ wait_all i rest) (sym (map-append (wait j) next (moved hay longest i (state_at p.states t.state) t))))

        -- a match that is not sought leads nowhere
        pub pend_dead : is_match (state_at p.states t.state) ≡ true → fin (at t.state i) ≡ false →
            pend (marks i seen) (waits next (t ∷ rest)) ≡ pend (marks i (t.state ∷ seen)) (waits next rest)
        pend_dead found other = grind (arith, common_steps, visit, same_is, same_refl)

        -- a match that is sought is the success, but for what took the piece before
        pub pend_hit : fin (at t.state i) ≡ true →
            pend (marks i seen) (waits next (t ∷ rest)) ≡ option_or (pend (marks i (t.state ∷ seen)) (wait_all j next)) (Some (outcome t))
        unfolding pending
        pend_hit found =
            pend-append _ _ _ ∙ ap₂ option_or (pend_later _ _ _ _ behind ∙ sym (pend_later _ _ (t.state ∷ seen) _ behind))
            (ap (λ (o : Option (List Configuration)). option_or (option_map (worth t.start t.slots) o) (pend (marks i seen) (wait_all i rest)))
            (run_match _ _ _ same_is same_refl _ _ _ fresh found)
            ∙ ap (λ (slots : List (Option ℕ)). Some (record { start = t.start; slots = slots })) (match_keeps _ _ _ (fin_matches (at t.state i) found)))
