-- One place is searched: the machine on lists does so too, and what holds between two places holds again. So a search goes from place to place, and
-- has its result where it ends.
use Rattle.bites_machine.proofs.Library.{common_steps, ◌≡◌, ℕ, ◌+◌, ◌<◌, ◌≤◌, Bool, cond, List, [], ◌∷◌, ◌++◌, map, length, Option, Some, None, refl, sym, ap, ◌∙◌, subst, arith, ◌||◌, ◌&&◌, not, if◌then◌else◌, IfSome, is_some, replicate, count_by-le-length, Among, Program, Configuration, at, IsWellFormed, Record, Searching, Searches, after, Listed, WalkState, walk_state, states_in, thread_of, row_of, with_next, seen_here, kept_by, ClosesAll, InvariantBetweenSteps, PlaceSearched, Represents, WalksHere, start_threads, starts_on, walking_at, left_in, Position, Thread, Among-append, Among-map, MachineThread, Walking, Among-under, append-nil, suc, true, false, ◌==◌, piece, SearchResult, IsProgramOf, HasReached, length-map}
use Rattle.bites_machine.proofs.refine.ClosureSteps.{states_kept}
use Rattle.bites_machine.proofs.model.MachineKnown.{IsKnown, walk_known}
use Rattle.bites_machine.proofs.refine.BetweenStepsLemmas.{none_here, all_before, here_and_before, none_behind}

abbrev walking_on : List MachineThread → List ℕ → List MachineThread → Option MachineThread → ℕ → Walking
walking_on stack seen next first_match looks = record { stack = stack; seen = seen; next = next; first_match = first_match; looks = looks }

abbrev searching_at : ℕ → List MachineThread → Bool → Option MachineThread → List Configuration → ℕ → Searching
searching_at place threads starts best visits looks = record { place = place; threads = threads; starts = starts; best = best; visits = visits; looks = looks }

-- the start after the threads, if it is walked
starts_while : (longest : Bool) (place slots_per_row first : ℕ) (starts : Bool) →
    start_threads longest place slots_per_row (cond starts (Some first) None)
    ≡ cond starts (record { state = first; start = if longest then place else 0; slots = replicate slots_per_row None } ∷ []) []
starts_while longest place slots_per_row first is_start = grind (arith, common_steps)

module _ (here : Position) (begins : Option ℕ) (threads : List Thread) (old new : WalkState) (w : ClosesAll here begins threads old new)
    (first_match : old.scratch.first_match ≡ None) (next : old.scratch.next.threads ≡ []) (before : (v : Configuration) → Among old.counted.walked.visits v → v.place < here.place) where
  abbrev was : Record
  was = old.counted.walked

  abbrev now : Record
  now = new.counted.walked

  abbrev stack : List MachineThread
  stack = map (thread_of old.scratch.rows) threads ++ start_threads here.longest here.place (length old.slots) begins

  begun_is : walking_at here old (kept_by here old stack) ≡ walking_on stack [] [] None was.looks
  begun_is = grind (arith, common_steps, none_here)

  walk_begun : (p : Program) → p.states ≡ states_in old → WalksHere here p (walking_on stack [] [] None was.looks) (walking_at here new [])
  walk_begun p is = subst (λ (v : Walking). WalksHere here p v (walking_at here new [])) begun_is (w.walks p is)

  -- the threads that took the piece lead to states
  later_known : (p : Program) → p.states ≡ states_in old → IsWellFormed p → IfSome begins (λ q. q ≡ p.start) → ((t : Thread) → Among threads t → t.state < length (states_in old)) →
      (t : Thread) → Among new.scratch.next.threads t → t.state < length (states_in new)
  later_known p is well starts known t h =
      let within : here.place ≤ length here.haystack.now = omega (arith, here.within) in
      let first : IsKnown p here.haystack.now well here.longest here.place within (walking_on stack [] [] None was.looks) = grind (arith, common_steps, Among-map, Among-append) in
      let last = walk_known p here.haystack.now well here.longest here.place within (walking_on stack [] [] None was.looks) (walking_at here new []) (walk_begun p is) first in
      rw (← states_kept here old new w.keeps p.states is) (last.next (thread_of new.scratch.rows t) (Among-under (thread_of new.scratch.rows) new.scratch.next.threads t h))

  -- what holds between two places holds again
  between_again : (p : Program) → p.states ≡ states_in old → IsWellFormed p → IfSome begins (λ q. q ≡ p.start) → (list : Listed) → ((t : Thread) → Among threads t → t.state < length (states_in old)) →
      list.room ≡ length (states_in old) → InvariantBetweenSteps (here.place + 1) new.scratch.next (walk_state new.counted (with_next list new.scratch) new.slots)
  between_again p is well starts list known room = record {
    visits = none_behind here.place now.visits w.within_step.place.before;
    room = grind (arith, common_steps);
    few = omega (arith, w.within_step.place.next, count_by-le-length (λ (m : Bool). m) new.scratch.visited_set, w.within_step.place.visited_set);
    known = later_known p is well starts known;
    used = rw (← append-nil (map row_of new.scratch.next.threads)) w.users;
    wide = w.within_step.place.wide;
  }

  all_visits : map (λ q. at q here.place) (seen_here here.place now.visits) ++ was.visits ≡ now.visits
  all_visits =
      ap (λ (l : List Configuration). map (λ q. at q here.place) (seen_here here.place now.visits) ++ l) (sym (w.keeps.before ∙ all_before here.place was.visits before))
      ∙ here_and_before here.place now.visits

  by_best : (p : Program) → p.states ≡ states_in old → (anchored : Bool) (best : Option MachineThread) (first : List (Option ℕ)) (starts found : Bool) → is_some best ≡ found →
      left_in best first ≡ old.slots → begins ≡ (if starts then Some p.start else None) →
      (t : Searching) × Searches here.haystack.now here.longest p (length old.slots) anchored (searching_at here.place (map (thread_of old.scratch.rows) threads) starts best was.visits was.looks) t
      × Represents t (here.place + here.ch_len) (map (thread_of new.scratch.rows) new.scratch.next.threads) now first new.slots (starts_on anchored starts new.scratch) (found || is_some new.scratch.first_match)
  by_best p is anchored best first starts found found_is slots_is begins_is =
      let s = searching_at here.place (map (thread_of old.scratch.rows) threads) starts best was.visits was.looks in
      let begun : start_threads here.longest here.place (length old.slots) begins
      ≡ cond starts (record { state = p.start; start = if here.longest then here.place else 0; slots = replicate (length old.slots) None } ∷ []) [] =
      ap (start_threads here.longest here.place (length old.slots)) begins_is ∙ starts_while here.longest here.place (length old.slots) p.start starts in (
        after here.haystack.now here.longest p (length old.slots) anchored s (walking_at here new []),
        record {
          last = walking_at here new [];
          walks = rw (← begun) (walk_begun p is);
          over = refl;
          is = refl;
        },
        record {
          place = ap (λ (n : ℕ). here.place + n) (sym here.len_is);
          threads = refl;
          starts = ap (λ (b : Bool). starts && not (anchored || b)) (grind (arith, common_steps));
          found = grind (arith, common_steps);
          slots = grind (arith, common_steps);
          visits = all_visits;
          looks = refl;
        },
      )

  -- the place was searched, by the machine on lists too; its next threads are exchanged with another list
  pub place_searched : (p : Program) → p.states ≡ states_in old → IsWellFormed p → IfSome begins (λ q. q ≡ p.start) → (list : Listed) → ((t : Thread) → Among threads t → t.state < length (states_in old)) →
      list.room ≡ length (states_in old) → list.threads ≡ threads →
      PlaceSearched here begins list new.scratch.next old (walk_state new.counted (with_next list new.scratch) new.slots)
  place_searched p is well begun list known room are = record {
    searches = λ p is anchored s first starts found begins_is stands.
        let same : s ≡ searching_at here.place (map (thread_of old.scratch.rows) threads) starts s.best was.visits was.looks = grind (arith, common_steps) in
        rw same (by_best p is anchored s.best first starts found stands.found stands.slots begins_is);
    between = between_again p is well begun list known room;
    passes = grind arith;
  }

-- whether a search is over after a place, as the code tests it
abbrev pub ends_by : Bool → ℕ → Bool → Bool → ℕ → Bool
ends_by earliest len is_found starts threads = (len == 0) || ((earliest && is_found) || (not starts && (threads == 0)))

module _ (p : Program) (hay : List ℕ) (longest anchored earliest : Bool) (start : ℕ) (old : List (Option ℕ)) where
  -- a search begins at its start
  pub reached_first : (place : ℕ) (starts is_found : Bool) (walked : Record) (threads : List MachineThread) → place ≡ start → starts ≡ true → is_found ≡ false → threads ≡ [] →
      walked.visits ≡ [] → walked.looks ≡ 0 → HasReached p hay longest anchored earliest start old place starts is_found walked threads old
  reached_first place starts is_found walked threads here on nothing none visits looks = grind arith

  -- One place more is searched: the search is over there, or it goes on at the next place.
  pub place_done : (place first len left : ℕ) (here : Position) (begins : Option ℕ) (starts on is_found found : Bool) (threads later : Listed) (w new : WalkState) →
      here.haystack.now ≡ hay → here.longest ≡ longest → here.place ≡ place → IsProgramOf p (states_in w) first →
      begins ≡ cond starts (Some first) None → on ≡ starts_on anchored starts new.scratch → found ≡ (is_found || is_some new.scratch.first_match) →
      len ≡ (piece hay place).len → left ≡ length later.threads →
      HasReached p hay longest anchored earliest start old place starts is_found w.counted.walked (map (thread_of w.scratch.rows) threads.threads) w.slots →
      PlaceSearched here begins threads later w new →
      (ends_by earliest len found on left ≡ true → SearchResult p hay longest anchored earliest start found old new.slots new.counted.walked)
      × (ends_by earliest len found on left ≡ false →
      HasReached p hay longest anchored earliest start old (place + len) on found new.counted.walked (map (thread_of new.scratch.rows) later.threads) new.slots)
  place_done place first len left here begins starts on is_found found threads later w new texts longs heres is begun ons founds lens lefts gone one =
      let stood = subst (λ i. Represents gone.now i (map (thread_of w.scratch.rows) threads.threads) w.counted.walked old w.slots starts is_found) (sym heres) gone.stands in
      let next = one.searches p is.states anchored gone.now old starts is_found (begun ∙ ap (λ q. cond starts (Some q) None) (sym is.start)) stood in (
        λ over. grind (arith, common_steps, length-map),
        λ goes. record {
          places = suc gone.places;
          now = next.0;
          searched = (gone.now, gone.searched, rw (texts, longs, gone.len) at next.1, grind (arith, common_steps, length-map));
          stands = grind (arith, common_steps);
          len = grind (arith, common_steps);
        },
      )
