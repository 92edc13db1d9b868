-- Until the machine has a match, every edge of a visited configuration leads to a visited configuration or to a thread.
use Rattle.bites_machine.proofs.Library.{common_steps, ◌≡◌, ℕ, ◌+◌, ◌<◌, ◌≤◌, Bool, true, false, cond, List, [], ◌∷◌, ◌++◌, map, take, length, Option, Some, None, refl, sym, ap, ◌∙◌, subst, inl, inr, ⊎_elim, ◌⊎◌, true≢false, arith, eqb-true, option_or, cases_Bool, piece, Among, Program, Configuration, at, state_at, is_match, Run, leads, matches, Runs, IsRun, NoRun, LeastEnd, slots, Record, VisitedAll, VisitedSome, Among-left, Among-right, dropped, MachineThread as Thread, Walking, Searching, with_write, thread_on, moved, started, begun, Searches, SearchedTo, Searched, starts_of, none-some, Among-under, option_or_cases}
use Rattle.bites_spec.proofs.runs.FirstLemmas.{or_none}
use Rattle.bites_machine.proofs.model.PathLemmas.{walk_ends, walk_along, Runs-forward}
use Rattle.bites_machine.proofs.model.MachineWalks.{was_seen, Keeps, walk_keeps}
use Rattle.bites_machine.proofs.model.MachineTrace.{Found}
use Rattle.bites_machine.proofs.model.MachineSearch.{later_starts, starts-here, left_after, to_come, to_come_later, come_here, place_traced, traced_on, over_cases, IsPlaced, place_within, searched_placed, searched_keeps, configurations_of}

-- what was visited, what of it was read, and how often was looked
abbrev pub record_of : List Configuration → Searching → Record
record_of read t = record { visits = t.visits; read = read; looks = t.looks }

-- a thread of the list is at the configuration
abbrev Waits : List Thread → ℕ → Configuration → Type 0
Waits ts i v = (u : Thread) × Among ts u × (at u.state i ≡ v)

seen_among : (hay : List ℕ) (longest : Bool) (p : Program) (i : ℕ) (seen : List ℕ) (q : ℕ) → was_seen hay longest i p seen q ≡ true →
    Among (map (λ x. at x i) seen) (at q i)
seen_among hay longest p i [] q was = absurd (true≢false (sym was))
seen_among hay longest p i (x ∷ seen) q was = grind (arith, common_steps, true≢false, eqb-true, was_seen, cases_Bool, (seen_among hay longest p i seen q))

module _ (p : Program) (hay : List ℕ) (longest : Bool) (width : ℕ) (starts : List ℕ) where
  -- No match was visited. What leads on from visited configurations, or is a start before the later ones, was visited or waits.
  record IsClosed (visits : List Configuration) (threads : List Thread) (i : ℕ) (later : List ℕ) : Type 0 where
    closed : (u : Configuration) → Among visits u → (v : Configuration) → Among (leads p hay u) v → Among visits v ⊎ Waits threads i v
    begun : (k : ℕ) → Among starts k → Among visits (at p.start k) ⊎ Among later k
    no_match : (u : Configuration) → Among visits u → matches p u ≡ false

  module _ (i : ℕ) (old : List Configuration) (later : List ℕ) where
    -- visited, or waiting at the place
    abbrev IsHere : Walking → Configuration → Type 0
    IsHere w v = Among (configurations_of i old w.seen) v ⊎ Waits w.stack i v

    -- visited, or waiting in a walk
    abbrev IsMet : Walking → Configuration → Type 0
    IsMet w v = IsHere w v ⊎ Waits w.next (i + (piece hay i).len) v

    record IsClosing (w : Walking) : Type 0 where
      closed : (u : Configuration) → Among (configurations_of i old w.seen) u → (v : Configuration) → Among (leads p hay u) v → IsMet w v
      begun : (k : ℕ) → Among starts k → IsHere w (at p.start k) ⊎ Among later k
      no_match : (u : Configuration) → Among (configurations_of i old w.seen) u → matches p u ≡ false

    -- what was met is met, once the first thread of the stack was visited
    module _ (t : Thread) (rest : List Thread) (w x : Walking) (is : w.stack ≡ t ∷ rest) (here : Among (configurations_of i old x.seen) (at t.state i))
        (visits : (u : Configuration) → Among (configurations_of i old w.seen) u → Among (configurations_of i old x.seen) u) (stack : (u : Thread) → Among rest u → Among x.stack u)
        (next : (u : Thread) → Among w.next u → Among x.next u) where
      closing_on : ((u : Configuration) → Among (configurations_of i old x.seen) u → (at t.state i ≡ u) ⊎ Among (configurations_of i old w.seen) u) →
          ((v : Configuration) → Among (leads p hay (at t.state i)) v → IsMet x v) → is_match (state_at p.states t.state) ≡ false → IsClosing w → IsClosing x
      closing_on new led none before = grind (arith, configurations_of)

    moved_waits : (t : Thread) (k : ℕ) (v : Configuration) → Among (leads p hay (at t.state i)) v → v.place ≡ k → Waits (moved hay longest i (state_at p.states t.state) t) k v
    moved_waits t k v edge is = (
      thread_on t.start (with_write (state_at p.states t.state) i t.slots) v,
      Among-under (thread_on t.start (with_write (state_at p.states t.state) i t.slots)) (leads p hay (at t.state i)) v edge,
      ap (λ (n : ℕ). at v.state n) (sym is),
    )

    never : (o : Option Thread) (t : Thread) → option_or o (Some t) ≡ None → ⊥
    never h t e = grind (arith, common_steps, none-some)

    abbrev IsClosingYet : Walking → Type 0
    IsClosingYet w = w.first_match ≡ None → IsClosing w

    on_dropped : (t : Thread) (rest : List Thread) (w : Walking) → w.stack ≡ t ∷ rest → was_seen hay longest i p w.seen t.state ≡ true →
        IsClosing w → IsClosing (dropped rest w)
    on_dropped t rest w is was before =
        let here = Among-left (map (λ x. at x i) w.seen) old (at t.state i) (seen_among hay longest p i w.seen t.state was) in
        grind (arith, common_steps)

    closing_keeps : Keeps hay longest i p IsClosingYet
    closing_keeps = record {
      on_seen = λ t rest w is was now none. on_dropped _ _ _ is was (now none);
      on_match = λ t rest w is new found now none. absurd (never _ _ none);
      on_taken = λ t rest w is new none one over now no_hit.
          closing_on t _ _ _ is (inl refl) (λ u h. inr h) (λ u h. h) (λ u h. Among-left _ _ _ h) (λ u h. h)
          (λ v edge. let waits = moved_waits _ _ _ edge (over v edge).1 in inr (waits.0, Among-right _ _ _ waits.1, waits.2)) none (now no_hit);
      on_gone = λ t rest w is new none beside now no_hit.
          let on = moved hay longest i (state_at p.states t.state) t in
          closing_on t rest _ _ is (inl refl) (λ u h. inr h) (λ u h. Among-right on rest u h) (λ u h. h) (λ u h. h)
          (λ v edge. let waits = moved_waits _ _ _ edge (beside v edge) in inl (inr (waits.0, Among-left _ _ _ waits.1, waits.2))) none (now no_hit);
    }

  -- what leads on is known as long as nothing was found
  module _ (anchored : Bool) where
    abbrev IsClosedYet : Searching → Type 0
    IsClosedYet s = s.best ≡ None → IsClosed s.visits s.threads s.place (to_come hay anchored s)

    -- one place more
    module _ (s t : Searching) (le : s.place ≤ length hay) (place : Searches hay longest p width anchored s t) (now : IsClosedYet s) where
      abbrev start_thread : Thread
      start_thread = started hay longest p width s.place

      abbrev later : List ℕ
      later = to_come_later hay anchored s

      begun_closing : (b : Bool) → IsClosed s.visits s.threads s.place (cond b (starts_of hay anchored s.place) []) →
          IsClosing s.place s.visits (cond b (later_starts hay anchored s.place) [])
          (record { stack = s.threads ++ cond b (start_thread ∷ []) []; seen = []; next = []; first_match = None; looks = s.looks })
      begun_closing b before = record {
        closed = λ u h v edge. ⊎_elim (λ a. inl (inl a)) (λ waits. inl (inr (waits.0, Among-left _ _ _ waits.1, waits.2))) (before.closed u h v edge);
        begun = λ k h. ⊎_elim (λ a. inl (inl a)) (start_waits _ _) (before.begun k h);
        no_match = before.no_match;
      }
        where
          start_waits : (b : Bool) (k : ℕ) → Among (cond b (starts_of hay anchored s.place) []) k →
              (Among s.visits (at p.start k) ⊎ Waits (s.threads ++ cond b (start_thread ∷ []) []) s.place (at p.start k)) ⊎ Among (cond b (later_starts hay anchored s.place) []) k
          start_waits false k h = absurd h
          start_waits true k h =
              ⊎_elim (λ (e : s.place ≡ k). inl (inr (start_thread, Among-right s.threads _ _ (inl refl), ap (λ (n : ℕ). at p.start n) e)))
              inr (subst (λ (l : List ℕ). Among l k) (starts-here _ _ _ le) h)

      -- with the starts that are left after the place
      closed_behind : t.best ≡ None → IsClosed t.visits t.threads (s.place + (piece hay s.place).len) (left_after place.last.first_match later)
      closed_behind none =
          let both = or_none place.last.first_match s.best (ap (λ (x : Searching). x.best) place.is ∙ none) in
          let last = walk_keeps hay longest s.place p (IsClosingYet s.place s.visits later) (closing_keeps s.place s.visits later)
          (begun hay longest p width s) place.last place.walks (λ e. begun_closing s.starts (now both.1)) both.0 in
          grind (arith, common_steps, left_after)

      closed_on : 0 < (piece hay s.place).len → IsClosedYet t
      closed_on some none = grind (arith, common_steps, left_after, closed_behind)

  -- no run from a start ends before the place of a search without a match
  none_before : (visits : List Configuration) (threads : List Thread) (i : ℕ) (later : List ℕ) → ((k : ℕ) → Among later k → i ≤ k) → IsClosed visits threads i later →
      (k : ℕ) → Among starts k → (o : List Configuration) (j : ℕ) → IsRun p hay k o j → j < i → ⊥
  none_before visits threads i later above closed k among o j runs lt = grind (arith, goes, Runs-forward, closed)
    where
      goes : (s : Configuration) (r : List Configuration) → Among visits s → Runs p hay s r j → ⊥
      goes s [] a runs = true≢false (sym runs.0 ∙ closed.no_match s a)
      goes s (v ∷ r) a runs = grind (arith, common_steps, true≢false, Runs-forward, (goes v r))

module _ (p : Program) (hay : List ℕ) (longest : Bool) (width : ℕ) (fits : width ≤ p.slots) (anchored : Bool) (start : ℕ) (within : start ≤ length hay) where
  abbrev starts_here : List ℕ
  starts_here = starts_of hay anchored start

  module _ (earliest : Bool) where
    searched_closed : (n : ℕ) (s : Searching) → SearchedTo hay longest p width anchored earliest start n s → IsClosedYet p hay longest width starts_here anchored s
    searched_closed n s to =
        searched_keeps p hay longest width fits anchored earliest start within (IsClosedYet p hay longest width starts_here anchored)
        (λ none. record { closed = λ u h. absurd h; begun = λ k h. inr h; no_match = λ u h. absurd h })
        (λ s t placed now place on. closed_on p hay longest width starts_here anchored s t (place_within p hay longest width fits anchored earliest start within s placed) place now) n s to

    module _ (t : Searching) (end : Searched hay longest p width anchored earliest start t) where
      abbrev before : Searching
      before = end.before

      placed : IsPlaced p hay longest width fits anchored earliest start within before
      placed = searched_placed p hay longest width fits anchored earliest start within end.places before end.searched

      before_within : before.place ≤ length hay
      before_within = place_within p hay longest width fits anchored earliest start within before placed

      behind : t.best ≡ None → IsClosed p hay longest width starts_here t.visits t.threads (before.place + (piece hay before.place).len)
          (left_after end.last.last.first_match (to_come_later hay anchored before))
      behind = closed_behind p hay longest width starts_here anchored before t before_within end.last (searched_closed end.places before end.searched)

      led_visited : t.best ≡ None → (u v : Configuration) → Among t.visits u → Among (leads p hay u) v → Among t.visits v
      led_visited none u v h edge = grind (arith, common_steps, behind, true≢false, none-some, (placed.traced), before_within, placed, over_cases)

      start_visited : t.best ≡ None → (k : ℕ) → Among starts_here k → Among t.visits (at p.start k)
      start_visited none k h = grind (arith, common_steps, behind, true≢false, none-some, (placed.traced), before_within, placed, over_cases)

      -- a search that found nothing has visited all that is reached
      pub all_visited : t.best ≡ None → VisitedAll p hay starts_here (record_of [] t)
      all_visited none i among u reaches = search (arith, walk_ends, walk_along, led_visited, start_visited)

      -- and there is no run
      pub no_run : t.best ≡ None → NoRun p hay starts_here
      no_run none i among r j runs = search (arith, walk_along, led_visited, start_visited, true≢false, walk_ends, behind)

      -- what a search found is a run, and each of its configurations was visited
      pub best_found : (b : Thread) → t.best ≡ Some b → (e : ℕ) × Found p hay longest width starts_here t.visits e b
      best_found = (traced_on p hay longest width starts_here fits anchored before t placed.starts placed.traced end.last).best

      pub some_visited : (b : Thread) → t.best ≡ Some b → VisitedSome p hay starts_here (record_of [] t)
      some_visited b is = let f = (best_found b is).1 in (f.run, f.runs, f.among, f.was)

  none_yet : (n : ℕ) (s : Searching) → SearchedTo hay longest p width anchored true start n s → s.best ≡ None
  none_yet n s to = grind (arith, common_steps, searched_keeps, placed)

  -- Stopped at the first match, a search ends with a run that ends before or with every other.
  pub least_end : (t : Searching) → Searched hay longest p width anchored true start t → (b : Thread) → t.best ≡ Some b →
      (r : Run) × LeastEnd p hay starts_here (Some r) × (b.slots ≡ take width (slots p r))
  least_end t end b is = grind (arith, found, none_before, to_come, come_here, closed, below)
    where
      none : end.before.best ≡ None
      none = none_yet end.places end.before end.searched

      placed : IsPlaced p hay longest width fits anchored true start within end.before
      placed = searched_placed p hay longest width fits anchored true start within end.places end.before end.searched

      closed : IsClosed p hay longest width starts_here end.before.visits end.before.threads end.before.place (to_come hay anchored end.before)
      closed = searched_closed true end.places end.before end.searched none

      first_match : end.last.last.first_match ≡ Some b
      first_match = grind (arith, common_steps, none-some, none, option_or_cases)

      found : Found p hay longest width starts_here (configurations_of end.before.place end.before.visits end.last.last.seen) end.before.place b
      found =
          (place_traced p hay longest width starts_here fits anchored end.before t placed.starts placed.traced end.last).first_match b first_match

      below : (j : ℕ) → j < found.run.end → j < end.before.place
      below j lt = let e = found.end_is in omega arith
