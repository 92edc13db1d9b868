-- The machine finds the longest run.
use Rattle.bites_machine.proofs.Library.{common_steps, ◌≡◌, ℕ, suc, ◌+◌, ◌<◌, ◌≤◌, Bool, true, false, ◌&&◌, cond, List, [], ◌∷◌, ◌++◌, take, length, Option, Some, None, option_map, refl, sym, ap, ap₂, ◌∙◌, subst, inl, ⊎_elim, ◌⊎◌, true≢false, arith, eqb-true, eq-eqb, le-leb, ◌==◌, nat_le, replicate, same_Some, none-some, filter, option_or, append-nil, and_parts, cases_lt, cases_order, piece, Among, first_among, Program, Configuration, at, state_at, is_match, IsWellFormed, Run, StartsFirst, Runs, LongestRun, is_end_at, leads, matches, slots, longest_run, starts_rise, sound, same_is, same_refl, match_ends, first_place, no_place, pending, or_assoc, MachineThread as Thread, Walking, Searching, kept, moved, started, begun, Searches, at_start, is_over, SearchedTo, Searched, starts_of, option_or_cases, Ends}
use Rattle.bites_spec.proofs.programs.LongestLemmas.{no_run_to, no_walk_no_run, walk_makes_run, below_found, below_some, one_longest_answer, longest_run-LongestRun}
use Rattle.bites_machine.proofs.model.PathLemmas.{Runs-forward, walk_ends, walk_as}
use Rattle.bites_machine.proofs.model.MachineWalks.{was_seen, Keeps, walk_keeps}
use Rattle.bites_machine.proofs.model.MachineWaiting.{run_writes, Outcome, outcome, worth, wait_all, marks, run, pend, pend-append, pend_later, pend_seen, pend_gone, pend_taken, pend_dead, pend_hit, pend_push}
use Rattle.bites_machine.proofs.model.MachineTrace.{Found, trace_inside}
use Rattle.bites_machine.proofs.model.MachineSearch.{later_starts, starts_are, starts-here, starts_lie, to_come, to_come_later, come_here, later_behind, left_after, IsTraced, traced_keeps, begun_traced, place_traced, over_cases, IsPlaced, place_within, searched_placed, searched_keeps, configurations_of}
use Rattle.bites_machine.proofs.model.MachineClosed.{best_found}
use Rattle.bites_machine.proofs.model.MachineOrder.{AreOrdered, ordered_start, ordered_on, place_ordered}

module _ (p : Program) (hay : List ℕ) (well : IsWellFormed p) (width : ℕ) (fits : width ≤ p.slots) (anchored : Bool) (start : ℕ) (within : start ≤ length hay) where
  abbrev starts : List ℕ
  starts = starts_of hay anchored start

  abbrev base : List (Option ℕ)
  base = replicate width None

  module _ (r : Run) (longest : LongestRun p hay starts (Some r)) where
    abbrev first : StartsFirst p hay starts r
    first = longest.0

    start_within : r.start ≤ length hay
    start_within = (starts_lie hay anchored start r.start first.from).1

    abbrev is_end : Configuration → Bool
    is_end = is_end_at p r.end

    end_matches : (s : Configuration) → is_end s ≡ true → matches p s ≡ true
    end_matches s e = (and_parts (matches p s) (s.place == r.end) e).0

    end_place : (s : Configuration) → is_end s ≡ true → s.place ≡ r.end
    end_place s e = eqb-true s.place r.end (and_parts (matches p s) (s.place == r.end) e).1

    ends_nowhere : (s : Configuration) → is_end s ≡ true → leads p hay s ≡ []
    ends_nowhere s e = match_ends p hay s (end_matches s e)

    abbrev run_to_end : Configuration → Option (List Configuration)
    run_to_end s = run p hay is_end end_matches (λ q. false) s

    abbrev pended : (Configuration → Bool) → List (Configuration × (List Configuration → Outcome)) → Option Outcome
    pended seen ws = pend p hay is_end end_matches seen ws

    -- what is found is a run to the end
    found_run : (seen : Configuration → Bool) (s : Configuration) (l : List Configuration) → run p hay is_end end_matches seen s ≡ Some l → (o : List Configuration) × (l ≡ s ∷ o) × Runs p hay s o r.end
    found_run seen s l e = let h = sound _ _ _ same_is same_refl ends_nowhere _ _ _ _ e in (h.0, h.1, walk_as (leads p hay) (λ q. is_end q ≡ true) (Ends p hay r.end) (λ u e. (end_matches u e, end_place u e)) s h.0 h.2)

    -- the longest run is what is found
    longest_found : run_to_end (at p.start r.start) ≡ Some (at p.start r.start ∷ r.configurations)
    longest_found = by_answer (run_to_end (at p.start r.start)) refl
      where
        by_answer : (o : Option (List Configuration)) → run_to_end (at p.start r.start) ≡ o → o ≡ Some (at p.start r.start ∷ r.configurations)
        by_answer None e = grind (arith, common_steps, no_run_to, no_walk_no_run, start_within, found_run, below_some, below_found, walk_makes_run, one_longest_answer, same_Some)
        by_answer (Some l) e =
            let f = found_run (λ q. false) (at p.start r.start) l e in
            let other : Run = record { start = r.start; configurations = f.0; end = r.end } in
            let below = below_some p hay well (suc r.end) r.start other
            (below_found p hay r.start r.end other (walk_makes_run p hay r.start r.end f.0 (e ∙ ap (λ (x : List Configuration). Some x) f.1))) start_within in
            let same = one_longest_answer p hay starts (Some r) (Some other) longest (
              record { runs = below.runs; from = first.from; none_before = first.none_before },
              longest.1,
              below.first_of,
            ) in
            ap (λ (x : List Configuration). Some x) (f.1 ∙ ap (λ (x : Run). at p.start r.start ∷ x.configurations) (sym (same_Some r other same)))

    -- what the longest run leaves
    abbrev the_outcome : Outcome
    the_outcome = worth p hay r.start base (at p.start r.start ∷ r.configurations)

    -- the outcome of the first run from a place to the end
    abbrev answer_from : ℕ → Option Outcome
    answer_from k = option_map (worth p hay k base) (run_to_end (at p.start k))

    answer_here : answer_from r.start ≡ Some the_outcome
    answer_here = ap (option_map (worth p hay r.start base)) longest_found

    answer_first : first_among answer_from starts ≡ Some the_outcome
    answer_first = by_answer (first_among answer_from starts) refl
      where
        by_answer : (o : Option Outcome) → first_among answer_from starts ≡ o → o ≡ Some the_outcome
        by_answer None e = absurd (none-some the_outcome (sym (no_place answer_from starts e r.start first.from) ∙ answer_here))
        by_answer (Some y) e =
            let at_first = first_place answer_from starts y (starts_rise hay start starts (starts_are hay anchored start)) e in
            ⊎_elim (λ (same : at_first.place ≡ r.start). sym at_first.is ∙ ap answer_from same ∙ answer_here)
            (⊎_elim
            (λ (lt : at_first.place < r.start). absurd (none-some y (sym (grind (arith, common_steps, option_map, found_run)) ∙ at_first.is)))
            (λ (lt : r.start < at_first.place). absurd (none-some the_outcome (sym (at_first.none_before r.start first.from lt) ∙ answer_here))))
            (cases_order at_first.place r.start)

    -- if the result is from these places, it is from one of them
    answer_among : (ks : List ℕ) → first_among answer_from ks ≡ Some the_outcome → Among ks r.start
    answer_among [] e = absurd (none-some the_outcome e)
    answer_among (k ∷ ks) e = grind (arith, common_steps, none-some, option_or_cases, (answer_among ks), option_map)

    -- from past the end there is no run to it
    pend_past : (seen : Configuration → Bool) (j : ℕ) (ts : List Thread) → r.end < j → pended seen (wait_all p hay j ts) ≡ None
    unfolding pending
    pend_past seen j [] lt = refl
    pend_past seen j (t ∷ ts) lt = grind (arith, common_steps, option_map, run, end_matches, found_run, Runs-forward, (pend_past seen j ts lt))

    pend_after : (seen : Configuration → Bool) (j : ℕ) (ts : List Thread) → ((t : Thread) → Among ts t → r.end < j) → pended seen (wait_all p hay j ts) ≡ None
    unfolding pending
    pend_after seen j [] behind = refl
    pend_after seen j (t ∷ ts) behind = pend_past seen j (t ∷ ts) (behind t (inl refl))

    -- what a match leaves has the success, if it started no later
    pend_filter : (seen : Configuration → Bool) (i c : ℕ) (ts : List Thread) → r.start ≤ c → pended seen (wait_all p hay i ts) ≡ Some the_outcome →
        pended seen (wait_all p hay i (filter (λ t. nat_le t.start c) ts)) ≡ Some the_outcome
    unfolding pending
    pend_filter seen i c [] le e = e
    pend_filter seen i c (t ∷ ts) le e = grind (arith, common_steps, run, end_matches, wait_all, le-leb, option_or_cases, worth, none-some, same_Some, (pend_filter seen i c ts le))

    module _ (i : ℕ) (here : i ≤ length hay) (old : List Configuration) (after_here : List ℕ) (above : (k : ℕ) → Among after_here k → i < k) where
      abbrev there : ℕ
      there = i + (piece hay i).len

      -- what the later starts are worth, while nothing is found
      abbrev later : Option Thread → Option Outcome
      later o = first_among answer_from (left_after o after_here)

      abbrev waiting : List ℕ → List Thread → List Thread → Option Outcome
      waiting seen next stack = pended (marks p hay i seen) (wait_all p hay there next ++ wait_all p hay i stack)

      not_later : (o : Option Thread) → r.start ≤ i → later o ≡ Some the_outcome → ⊥
      not_later None le e = let lt = above r.start (answer_among after_here e) in omega arith
      not_later (Some b) le e = none-some the_outcome e

      -- a first match has found a run, which begins no earlier than the longest
      hit_start : (visits : List Configuration) (h : Thread) → Found p hay true width starts visits i h → (r.start ≤ h.start) × (h.start ≤ i)
      hit_start visits h f = grind (arith, common_steps, Runs-forward)

      module _ (t : Thread) (rest : List Thread) (w : Walking) (is : w.stack ≡ t ∷ rest) (traced : IsTraced p hay true width starts fits i old w) where
        behind : (u : Thread) → Among w.next u → i < there
        behind u h = let some = (traced.next u h).0 in omega arith

        inside : t.state < length p.states
        inside =
            (trace_inside p hay true width starts well (λ k h. (starts_lie hay anchored start k h).1) (configurations_of i old w.seen) i t
            (traced.stack t (rw is (inl refl)))).0

        now_waiting : waiting w.seen w.next (t ∷ rest) ≡ waiting w.seen w.next w.stack
        now_waiting = ap (λ (l : List Thread). waiting w.seen w.next l) (sym is)

        seen_waiting : was_seen hay true i p w.seen t.state ≡ true → waiting w.seen w.next rest ≡ waiting w.seen w.next w.stack
        seen_waiting was = sym (pend_seen p hay is_end end_matches well true i there here w.seen w.next t rest behind was) ∙ now_waiting

        taken_waiting : was_seen hay true i p w.seen t.state ≡ false → is_match (state_at p.states t.state) ≡ false →
            ((v : Configuration) → Among (leads p hay (at t.state i)) v → v.place ≡ there) →
            waiting (t.state ∷ w.seen) (w.next ++ moved hay true i (state_at p.states t.state) t) rest ≡ waiting w.seen w.next w.stack
        taken_waiting new none over = sym (pend_taken p _ _ end_matches well true _ _ here _ _ _ _ behind new inside none over) ∙ now_waiting

        gone_waiting : was_seen hay true i p w.seen t.state ≡ false → is_match (state_at p.states t.state) ≡ false →
            ((v : Configuration) → Among (leads p hay (at t.state i)) v → v.place ≡ i) →
            waiting (t.state ∷ w.seen) w.next (moved hay true i (state_at p.states t.state) t ++ rest) ≡ waiting w.seen w.next w.stack
        gone_waiting new none beside = sym (pend_gone p _ _ end_matches well true _ _ here _ _ _ _ behind new inside none beside) ∙ now_waiting

      -- before the end: what waits has the success
      record IsAhead (w : Walking) : Type 0 where
        traced : IsTraced p hay true width starts fits i old w
        ahead : option_or (waiting w.seen w.next w.stack) (later w.first_match) ≡ Some the_outcome

      module _ (early : i < r.end) (t : Thread) (rest : List Thread) (w : Walking) (is : w.stack ≡ t ∷ rest) (now : IsAhead w)
          (new : was_seen hay true i p w.seen t.state ≡ false) (found : is_match (state_at p.states t.state) ≡ true) where
        not_end : is_end (at t.state i) ≡ false
        not_end = grind (arith, common_steps, end_place)

        dead_waiting : waiting (t.state ∷ w.seen) w.next rest ≡ waiting w.seen w.next w.stack
        dead_waiting =
            sym (pend_dead p hay is_end end_matches well true i there here w.seen w.next t rest (behind t rest w is now.traced) new (inside t rest w is now.traced) found not_end)
            ∙ now_waiting t rest w is now.traced

        cut_waiting : (c : ℕ) → r.start ≤ c → r.start ≤ i → waiting (t.state ∷ w.seen) w.next (filter (λ u. nat_le u.start c) rest) ≡ Some the_outcome
        cut_waiting c le before = grind (arith, common_steps, pend-append, end_matches, pend_filter, option_or_cases, not_later, dead_waiting)

        cut_ahead : (visits : List Configuration) (o : Option Thread) → ((h : Thread) → o ≡ Some h → Found p hay true width starts visits i h) → ((o ≡ None) → ⊥) →
            option_or (waiting (t.state ∷ w.seen) w.next (kept hay true o rest)) (later o) ≡ Some the_outcome
        cut_ahead visits None f some = absurd (some refl)
        cut_ahead visits (Some h) f some =
            let x = hit_start visits h (f h refl) in
            ap (λ (o : Option Outcome). option_or o None) (cut_waiting h.start x.0 (omega arith))

      changed : (w : Walking) → IsAhead w → (o : Option Outcome) → o ≡ waiting w.seen w.next w.stack → option_or o (later w.first_match) ≡ Some the_outcome
      changed w now o e = ap (λ (x : Option Outcome). option_or x (later w.first_match)) e ∙ now.ahead

      ahead_keeps : i < r.end → Keeps hay true i p IsAhead
      ahead_keeps early =
          let traces = traced_keeps p hay true width starts fits i old in record {
            on_seen = grind (arith, common_steps, changed, seen_waiting);
            on_match = λ t rest w is new found now.
                let traced = traces.on_match t rest w is new found now.traced in record {
                  traced = traced;
                  ahead = cut_ahead early t rest w is now new found (configurations_of i old (t.state ∷ w.seen)) (option_or w.first_match (Some t)) traced.first_match (grind (arith, common_steps, none-some));
                };
            on_taken = grind (arith, common_steps, changed, taken_waiting);
            on_gone = grind (arith, common_steps, changed, gone_waiting);
          }

      -- at the end: the first thread that comes to a match is the success
      abbrev AtEnd : Option Thread → Option Outcome → Type 0
      AtEnd None o = option_or o (later None) ≡ Some the_outcome
      AtEnd (Some h) o = outcome h ≡ the_outcome

      record IsAtEnd (w : Walking) : Type 0 where
        traced : IsTraced p hay true width starts fits i old w
        at_end : AtEnd w.first_match (waiting w.seen w.next w.stack)

      same_end : (w : Walking) → IsAtEnd w → (o : Option Outcome) → o ≡ waiting w.seen w.next w.stack → AtEnd w.first_match o
      same_end w now o e = subst (λ (x : Option Outcome). AtEnd w.first_match x) (sym e) now.at_end

      hit_at_end : i ≡ r.end → (t : Thread) (rest : List Thread) (w : Walking) → w.stack ≡ t ∷ rest → was_seen hay true i p w.seen t.state ≡ false →
          is_match (state_at p.states t.state) ≡ true → (traced : IsTraced p hay true width starts fits i old w) →
          (o : Option Thread) (x : Option Outcome) → AtEnd o (waiting w.seen w.next w.stack) → AtEnd (option_or o (Some t)) x
      hit_at_end late t rest w is new found traced (Some h) x now = now
      hit_at_end late t rest w is new found traced None x now =
          same_Some (outcome t) the_outcome
          (ap (λ (o : Option Outcome). option_or (option_or o (Some (outcome t))) (later None)) (sym (pend_after _ _ _ late_next))
          ∙ ap (λ (o : Option Outcome). option_or o (later None))
          (sym (pend_hit p _ _ end_matches well true _ _ here _ _ _ rest (behind t rest w is traced) new (inside t rest w is traced)
          (ap₂ ◌&&◌ found (eq-eqb i r.end late))) ∙ now_waiting _ rest w is traced) ∙ now)
        where
          late_next : (u : Thread) → Among w.next u → r.end < there
          late_next u h = let some = (traced.next u h).0 in omega arith

      at_end_keeps : i ≡ r.end → Keeps hay true i p IsAtEnd
      at_end_keeps late =
          let traces = traced_keeps p hay true width starts fits i old in record {
            on_seen = grind (arith, common_steps, same_end, seen_waiting);
            on_match = grind (arith, hit_at_end);
            on_taken = grind (arith, common_steps, same_end, taken_waiting);
            on_gone = grind (arith, common_steps, same_end, gone_waiting);
          }

    -- what waits, or one of these starts, has the success
    abbrev IsAheadAt : ℕ → List Thread → List ℕ → Type 0
    IsAheadAt i threads later = option_or (pended (λ q. false) (wait_all p hay i threads)) (first_among answer_from later) ≡ Some the_outcome

    -- the best is the success
    abbrev HasBest : Searching → Type 0
    HasBest s = (b : Thread) × (s.best ≡ Some b) × (outcome b ≡ the_outcome)

    record Stands (s : Searching) : Type 0 where
      ordered : AreOrdered p hay width fits starts s
      stands : IsAheadAt s.place s.threads (to_come hay anchored s) ⊎ (HasBest s × (r.end < s.place))

    stands_start : Stands (at_start start)
    stands_start = record {
      ordered = ordered_start p hay width fits starts start;
      stands = inl (ap (λ (o : Option Outcome). option_or o (first_among answer_from starts)) (pend_after (λ q. false) 0 [] (λ t h. absurd h)) ∙ answer_first);
    }

    -- a search that has the success ahead is not past the end
    not_behind : (s : Searching) → IsAheadAt s.place s.threads (to_come hay anchored s) → s.place ≤ r.end
    not_behind s ahead =
        ⊎_elim (λ (lt : r.end < s.place).
        let le = come_here _ _ s _ (answer_among _
        (ap (λ (o : Option Outcome). option_or o (first_among answer_from (to_come hay anchored s))) (sym (pend_past (λ q. false) _ _ lt)) ∙ ahead)) in
        absurd (omega (arith, Runs-forward))) (λ (le : s.place ≤ r.end). le) (cases_lt _ _)

    begun_ahead : (s : Searching) (le : s.place ≤ length hay) (b : Bool) → IsAheadAt s.place s.threads (cond b (starts_of hay anchored s.place) []) →
        IsAheadAt s.place (s.threads ++ cond b (started hay true p width s.place ∷ []) []) (cond b (later_starts hay anchored s.place) [])
    begun_ahead s le false e = ap (λ (l : List Thread). option_or (pended (λ q. false) (wait_all p hay s.place l)) None) (append-nil s.threads) ∙ e
    begun_ahead s le true e = grind (arith, common_steps, later_starts, pend_push, end_matches, or_assoc, wait_all, starts-here)

    -- one place more
    module _ (s t : Searching) (placed : IsPlaced p hay true width fits anchored false start within s) (now : Stands s) (place : Searches hay true p width anchored s t) where
      here_within : s.place ≤ length hay
      here_within = place_within p hay true width fits anchored false start within s placed

      abbrev next_place : ℕ
      next_place = s.place + (piece hay s.place).len

      abbrev last : Walking
      last = place.last

      abbrev to_begin : List ℕ
      to_begin = to_come_later hay anchored s

      last_traced : IsTraced p hay true width starts fits s.place s.visits last
      last_traced = place_traced p hay true width starts fits anchored s t placed.starts placed.traced place

      best_is : option_or last.first_match s.best ≡ t.best
      best_is = ap (λ (x : Searching). x.best) place.is

      threads_are : last.next ≡ t.threads
      threads_are = ap (λ (x : Searching). x.threads) place.is

      begun_traces : IsTraced p hay true width starts fits s.place s.visits (begun hay true p width s)
      begun_traces = begun_traced p hay true width starts fits s placed.starts placed.traced

      abbrev waits_here : List ℕ → List Thread → List Thread → Option Outcome
      waits_here = waiting s.place here_within s.visits to_begin (later_behind hay anchored s)

      last_waiting : waits_here last.seen last.next last.stack ≡ pended (λ q. false) (wait_all p hay next_place t.threads)
      last_waiting = grind (arith, common_steps, marks, append-nil, pend_later, end_matches, last_traced)

      -- before the end the success stays ahead
      stays_ahead : IsAheadAt s.place s.threads (to_come hay anchored s) → s.place < r.end → IsAheadAt next_place t.threads (left_after last.first_match to_begin)
      stays_ahead ahead early =
          ap (λ (o : Option Outcome). option_or o (first_among answer_from (left_after last.first_match to_begin))) (sym last_waiting) ∙ walked.ahead
        where
          walked : IsAhead s.place here_within s.visits to_begin (later_behind hay anchored s) last
          walked =
              walk_keeps hay true s.place p _ (ahead_keeps s.place here_within s.visits to_begin (later_behind hay anchored s) early) (begun hay true p width s) last place.walks
              record { traced = begun_traces; ahead = begun_ahead s here_within s.starts ahead }

      -- at the end it becomes the best
      becomes_best : IsAheadAt s.place s.threads (to_come hay anchored s) → s.place ≡ r.end → HasBest t
      becomes_best ahead late = by_hit last.first_match refl walked.at_end
        where
          walked : IsAtEnd s.place here_within s.visits to_begin (later_behind hay anchored s) last
          walked =
              walk_keeps hay true s.place p _ (at_end_keeps s.place here_within s.visits to_begin (later_behind hay anchored s) late) (begun hay true p width s) last place.walks
              record { traced = begun_traces; at_end = begun_ahead s here_within s.starts ahead }

          by_hit : (o : Option Thread) → last.first_match ≡ o →
              AtEnd s.place here_within s.visits to_begin (later_behind hay anchored s) o (waits_here last.seen last.next last.stack) → HasBest t
          by_hit (Some h) is now = (h, sym best_is ∙ ap (λ (o : Option Thread). option_or o s.best) is, now)
          by_hit None is now =
              absurd (not_later s.place here_within s.visits to_begin (later_behind hay anchored s) None (omega (arith, Runs-forward))
              (ap (λ (o : Option Outcome). option_or o (first_among answer_from to_begin)) (sym (last_waiting ∙ pend_after (λ q. false) next_place t.threads late_threads))
              ∙ now))
            where
              late_threads : (u : Thread) → Among t.threads u → r.end < next_place
              late_threads u h = let some = (last_traced.next u (rw threads_are h)).0 in omega arith

      -- and stays it
      stays_best : HasBest s → r.end < s.place → HasBest t
      stays_best (b, is, same) lt = by_hit last.first_match refl
        where
          no_hit : (h : Thread) → last.first_match ≡ Some h → ⊥
          no_hit h e =
              let f = last_traced.first_match h e in
              let upto = (place_ordered p hay width fits starts anchored s t placed.none placed.traced now.ordered place).hit_by_best b is h e in
              grind (arith, common_steps)

          by_hit : (o : Option Thread) → last.first_match ≡ o → HasBest t
          by_hit h none = grind (arith, common_steps, best_is, no_hit)

      -- after the place
      behind_place : IsAheadAt next_place t.threads (left_after last.first_match to_begin) ⊎ (HasBest t × (r.end ≤ s.place))
      behind_place = grind (arith, common_steps, stays_ahead, not_behind, becomes_best, cases_lt, stays_best)

      stands_on : 0 < (piece hay s.place).len → Stands t
      stands_on some = record {
        ordered = ordered_on p hay width fits starts anchored s t placed.none placed.traced now.ordered place;
        stands = grind (arith, common_steps, wait_all, at_next, behind_place);
      }
        where
          at_next : next_place ≡ t.place
          at_next = ap (λ (x : Searching). x.place) place.is

      stands_end : is_over hay true p width anchored false s.place t ≡ true → HasBest t
      stands_end over = ⊎_elim (λ ahead. absurd (not_ahead ahead)) (λ done. done.0) behind_place
        where
          not_ahead : IsAheadAt next_place t.threads (left_after last.first_match to_begin) → ⊥
          not_ahead ahead =
              ⊎_elim
              (λ nothing.
              none-some the_outcome
              (ap (λ (o : Option Outcome). option_or o None) (sym (pend_after (λ q. false) next_place [] (λ u h. absurd h)))
              ∙ ap₂ (λ (ts : List Thread) (l : List ℕ). option_or (pended (λ q. false) (wait_all p hay next_place ts)) (first_among answer_from l)) (sym nothing.0) (sym nothing.1)
              ∙ ahead))
              (λ never. true≢false (sym never))
              (over_cases p hay true width starts fits anchored s t placed.starts placed.traced place false here_within over)

    standing : (n : ℕ) (s : Searching) → SearchedTo hay true p width anchored false start n s → Stands s
    standing = searched_keeps p hay true width fits anchored false start within Stands stands_start (λ s t placed now place on. stands_on s t placed now place)

    -- the best at the end is the longest run
    best_is_longest : (t : Searching) → Searched hay true p width anchored false start t → HasBest t
    best_is_longest t end = stands_end _ t (searched_placed _ _ _ _ _ _ _ _ _ _ _ end.searched) (standing end.places end.before end.searched) end.last end.over

  -- A search for the longest run ends with the first slots of that run, or with nothing if there is none.
  pub longest_answer : (t : Searching) → Searched hay true p width anchored false start t → option_map (λ b. b.slots) t.best ≡ option_map (λ r. take width (slots p r)) (longest_run p hay starts)
  longest_answer t end = by_run (longest_run p hay starts) (longest_run-LongestRun p hay well start starts (starts_are hay anchored start))
    where
      by_run : (o : Option Run) → LongestRun p hay starts o → option_map (λ b. b.slots) t.best ≡ option_map (λ r. take width (slots p r)) o
      by_run (Some r) longest =
          let best = best_is_longest r longest t end in
          let found = (walk_ends (leads p hay) (Ends p hay r.end) (at p.start r.start) r.configurations longest.0.runs).0 in
          grind (arith, common_steps, run_writes)
      by_run None none = grind (arith, common_steps, (best_found p hay true width fits anchored start within false t end), none)
