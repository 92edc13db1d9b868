-- The machine visits no configuration twice, and looks no more often than there are edges, and once more at each place.
use Rattle.bites_machine.proofs.Library.{places-here, common_steps, ◌≡◌, ℕ, suc, ◌+◌, ◌*◌, ◌<◌, ◌≤◌, Bool, true, false, cond, List, [], ◌∷◌, ◌++◌, map, length, Option, Some, refl, sym, ap, subst, inl, ⊎_elim, true≢false, arith, length-append, eq-eqb, sum_by, option_or, length-map, sum_by-cons, piece, places, Among, IsNew, AllApart, AllApart-append, Among-left, State, Program, Configuration, at, state_at, targets_of, IsWellFormed, leads, IsBounded, Record, ReadsVisits, MachineThread as Thread, Walking, Searching, with_write, thread_on, kept, moved, started, begun, Searches, at_start, SearchedTo, Searched, starts_of, Among-append, Among-map, length-filter, count_by-le-length}
use Rattle.bites_machine.proofs.model.PathLemmas.{Among-place, edges_within}
use Rattle.bites_machine.proofs.compile.SumLemmas.{sum_of_ones, sum_of_configurations}
use Rattle.bites_machine.proofs.model.MachineWalks.{was_seen, Keeps, walk_keeps}
use Rattle.bites_machine.proofs.model.MachineTrace.{trace_inside}
use Rattle.bites_machine.proofs.model.MachineSearch.{later_starts, starts-here, starts_lie, to_come, to_come_later, left_after, IsTraced, traced_keeps, begun_traced, IsPlaced, place_within, searched_placed, searched_keeps, configurations_of}

-- a match leaves no more threads than there were
pub length-kept : (hay : List ℕ) (longest : Bool) (o : Option Thread) (ts : List Thread) → length (kept hay longest o ts) ≤ length ts
length-kept hay longest h ts = grind (arith, common_steps, length-filter, count_by-le-length)

-- a state that was not visited is none of those that were
pub unseen_here : (hay : List ℕ) (longest : Bool) (p : Program) (i : ℕ) (seen : List ℕ) (q : ℕ) → was_seen hay longest i p seen q ≡ false →
    IsNew (at q i) (map (λ x. at x i) seen)
unseen_here hay longest p i [] q new h = h
unseen_here hay longest p i (x ∷ seen) q new h = grind (arith, common_steps, true≢false, eq-eqb, was_seen, (unseen_here hay longest p i seen q))

-- Configurations apart that lie where a search goes keep to the bounds, if the looks are no more than edges from them, and one at each place.
pub visited_bounded : (p : Program) (hay : List ℕ) (start : ℕ) (r : Record) → AllApart r.visits → ReadsVisits r →
    ((u : Configuration) → Among r.visits u → (u.state < length p.states) × Among (places hay start) u.place) →
    r.looks ≤ length (places hay start) + sum_by (λ u. length (leads p hay u)) r.visits → length r.visits ≤ r.looks → IsBounded p hay start r
visited_bounded p hay start r apart reads inside looks looked =
    let ones = sum_of_configurations (λ (u : Configuration). 1) (λ (st : State). 1) p.states (places hay start) r.visits (λ q i. omega arith) apart inside in
    let edges = sum_of_configurations (λ (u : Configuration). length (leads p hay u)) (λ (st : State). length (targets_of st)) p.states (places hay start) r.visits
    (λ q i. edges_within hay (state_at p.states q) i) apart inside in record {
      apart = apart;
      read = reads;
      visits = let a = sum_of_ones r.visits in
          let b : length r.visits ≤ sum_by (λ (st : State). 1) p.states * length (places hay start) = omega arith in
          rw (← sum_of_ones p.states) b;
      looks = omega arith;
      looked = looked;
    }

module _ (p : Program) (hay : List ℕ) (well : IsWellFormed p) (longest : Bool) (width : ℕ) (fits : width ≤ p.slots) (anchored earliest : Bool) (start : ℕ) (within : start ≤ length hay) where
  abbrev starts : List ℕ
  starts = starts_of hay anchored start

  abbrev led : List Configuration → ℕ
  led visits = sum_by (λ u. length (leads p hay u)) visits

  module _ (i : ℕ) (among : Among (places hay start) i) (old : List Configuration) (before : (u : Configuration) → Among old u → u.place < i) (to_come : ℕ) where
    -- what was visited, and the looks of the walk that are done and left, with this number of starts to come
    record IsCounted (w : Walking) : Type 0 where
      traced : IsTraced p hay longest width starts fits i old w
      apart : AllApart (configurations_of i old w.seen)
      inside : (u : Configuration) → Among (configurations_of i old w.seen) u → (u.state < length p.states) × Among (places hay start) u.place
      looks : w.looks + length w.stack + length w.next + to_come ≤ length (places hay start) + sum_by (λ u. length (leads p hay u)) (configurations_of i old w.seen)
      looked : length (configurations_of i old w.seen) ≤ w.looks
      few : length w.next ≤ length w.seen

    -- no more states were visited here than there are
    seen_within : (w : Walking) → IsCounted w → length w.seen ≤ length p.states
    seen_within w now =
        let fits = sum_of_configurations (λ (u : Configuration). 1) (λ (st : State). 1) p.states (i ∷ []) (map (λ q. at q i) w.seen) (λ q k. omega arith)
        (AllApart-append (map (λ q. at q i) w.seen) old now.apart).0 (λ u h. ((now.inside u (Among-left (map (λ q. at q i) w.seen) old u h)).0, inl (sym (Among-place w.seen i u h).1))) in
        omega (arith, sum_of_ones (map (λ q. at q i) w.seen), sum_of_ones p.states, length-map w.seen (λ q. at q i))

    module _ (t : Thread) (rest : List Thread) (w : Walking) (is : w.stack ≡ t ∷ rest) (now : IsCounted w) where
      one_less : length w.stack ≡ suc (length rest)
      one_less = ap length is

      moved_count : length (moved hay longest i (state_at p.states t.state) t) ≡ length (leads p hay (at t.state i))
      moved_count = length-map (leads p hay (at t.state i)) (thread_on t.start (with_write (state_at p.states t.state) i t.slots))

      led_more : led (configurations_of i old (t.state ∷ w.seen)) ≡ length (leads p hay (at t.state i)) + led (configurations_of i old w.seen)
      led_more = sum_by-cons (λ (u : Configuration). length (leads p hay u)) (at t.state i) (configurations_of i old w.seen)

      now_apart : was_seen hay longest i p w.seen t.state ≡ false → AllApart (configurations_of i old (t.state ∷ w.seen))
      now_apart new = (
        λ h. ⊎_elim (unseen_here hay longest p i w.seen t.state new) (λ (a : Among old (at t.state i)). let lt = before (at t.state i) a in omega arith)
            (Among-append (map (λ x. at x i) w.seen) old (at t.state i) h),
        now.apart,
      )

      now_inside : (u : Configuration) → Among (configurations_of i old (t.state ∷ w.seen)) u → (u.state < length p.states) × Among (places hay start) u.place
      now_inside u h =
          ⊎_elim (λ (e : at t.state i ≡ u). rw (← e) (
            (trace_inside _ _ _ _ _ well (λ k h. (starts_lie _ _ _ _ h).1) (configurations_of i old w.seen) i t (now.traced.stack t (rw is (inl refl)))).0,
            among,
          )) (now.inside u) h

    counted_keeps : Keeps hay longest i p IsCounted
    counted_keeps =
        let traces = traced_keeps p hay longest width starts fits i old in record {
          on_seen = grind (arith, common_steps, one_less);
          on_match = λ t rest w is new found now. record {
            traced = traces.on_match t rest w is new found now.traced;
            apart = now_apart t rest w is now new;
            inside = now_inside t rest w is now;
            looks = let a = one_less t rest w is now in let b = now.looks in let c = led_more t rest w is now in
                let d = length-kept hay longest (option_or w.first_match (Some t)) rest in omega arith;
            looked = let b = now.looked in omega arith;
            few = let a = now.few in omega arith;
          };
          on_taken = λ t rest w is new none one over now. record {
            traced = traces.on_taken t rest w is new none one over now.traced;
            apart = now_apart t rest w is now new;
            inside = now_inside t rest w is now;
            looks = grind (arith, common_steps, one_less, led_more, moved_count, length-append);
            looked = let b = now.looked in omega arith;
            few = grind (arith, common_steps, moved_count, length-append);
          };
          on_gone = λ t rest w is new none beside now. record {
            traced = traces.on_gone t rest w is new none beside now.traced;
            apart = now_apart t rest w is now new;
            inside = now_inside t rest w is now;
            looks = grind (arith, common_steps, one_less, led_more, moved_count, length-append);
            looked = let b = now.looked in omega arith;
            few = let a = now.few in omega arith;
          };
        }

  -- what a search has visited and looked at so far, with this number of starts to come
  record HasCounted (s : Searching) (more : ℕ) : Type 0 where
    apart : AllApart s.visits
    inside : (u : Configuration) → Among s.visits u → (u.state < length p.states) × Among (places hay start) u.place
    looks : s.looks + length s.threads + more ≤ length (places hay start) + sum_by (λ u. length (leads p hay u)) s.visits
    looked : length s.visits ≤ s.looks
    few : length s.threads ≤ length p.states

  record IsCounting (s : Searching) : Type 0 where
    counted : HasCounted s (length (to_come hay anchored s))
    before : (u : Configuration) → Among s.visits u → u.place < s.place

  counting_start : IsCounting (at_start start)
  counting_start = grind (arith, common_steps, starts-here, places-here)

  -- one place more
  module _ (s t : Searching) (placed : IsPlaced p hay longest width fits anchored earliest start within s) (place : Searches hay longest p width anchored s t) (now : IsCounting s) where
    abbrev later : ℕ
    later = length (to_come_later hay anchored s)

    -- the start is walked at this place or at none
    begin_count : (b : Bool) → length (s.threads ++ cond b (started hay longest p width s.place ∷ []) []) + length (cond b (later_starts hay anchored s.place) [])
        ≤ length s.threads + length (cond b (starts_of hay anchored s.place) [])
    begin_count false = omega (arith, length-append s.threads [])
    begin_count true =
        omega (
          arith,
          length-append s.threads (started hay longest p width s.place ∷ []),
          ap length (starts-here hay anchored s.place (place_within p hay longest width fits anchored earliest start within s placed)),
        )

    last_counted : IsCounted s.place placed.place s.visits now.before later place.last
    last_counted =
        walk_keeps hay longest s.place p _ (counted_keeps s.place placed.place s.visits now.before later) (begun hay longest p width s) place.last place.walks record {
          traced = begun_traced p hay longest width starts fits s placed.starts placed.traced;
          apart = now.counted.apart;
          inside = now.counted.inside;
          looks = let a = begin_count s.starts in let b = now.counted.looks in omega arith;
          looked = now.counted.looked;
          few = omega arith;
        }

    counted_behind : HasCounted t later
    counted_behind =
        let visits = ap (λ (x : Searching). x.visits) place.is in record {
          apart = subst AllApart visits last_counted.apart;
          inside = rw (← visits) last_counted.inside;
          looks = grind (arith, common_steps, last_counted);
          looked = rw (← place.is) last_counted.looked;
          few = rw (← place.is) (omega (arith, last_counted.few, seen_within _ _ _ _ _ _ last_counted));
        }

    counting_on : 0 < (piece hay s.place).len → IsCounting t
    counting_on some = grind (arith, common_steps, counted_behind, to_come_later, Among-map, Among-append, left_after)

  -- what was counted keeps to the bounds
  counted_bounded : (t : Searching) (more : ℕ) → HasCounted t more → (read : List Configuration) → ((v : Configuration) → Among read v → Among t.visits v) →
      IsBounded p hay start (record { visits = t.visits; read = read; looks = t.looks })
  counted_bounded t more done read reads =
      visited_bounded p hay start (record { visits = t.visits; read = read; looks = t.looks }) done.apart reads done.inside (omega (arith, done.looks)) done.looked

  counting : (n : ℕ) (s : Searching) → SearchedTo hay longest p width anchored earliest start n s → IsCounting s
  counting n s to =
      searched_keeps p hay longest width fits anchored earliest start within IsCounting counting_start (λ s t placed now place on. counting_on s t placed place now) n s to

  -- no configuration was visited twice, and all that were lie before the place
  pub searched_visits : (n : ℕ) (s : Searching) → SearchedTo hay longest p width anchored earliest start n s →
      AllApart s.visits × ((v : Configuration) → Among s.visits v → v.place < s.place)
  searched_visits n s to = let counted = counting n s to in (counted.counted.apart, counted.before)

  -- the threads of a search lead to states, and there are no more of them than states
  pub searched_known : (n : ℕ) (s : Searching) → SearchedTo hay longest p width anchored earliest start n s → (t : Thread) → Among s.threads t → t.state < length p.states
  searched_known n s to t h = let placed = searched_placed _ _ _ _ fits _ _ _ within n s to in (trace_inside _ _ _ _ _ well (λ k h. (starts_lie _ _ _ _ h).1) _ _ t (placed.traced.threads t h)).0

  pub searched_few : (n : ℕ) (s : Searching) → SearchedTo hay longest p width anchored earliest start n s → length s.threads ≤ length p.states
  searched_few n s to = (counting n s to).counted.few

  -- the bounds on what a search visits and on how often it looks
  pub search_bounded : (t : Searching) → Searched hay longest p width anchored earliest start t → (read : List Configuration) → ((v : Configuration) → Among read v → Among t.visits v) →
      IsBounded p hay start (record { visits = t.visits; read = read; looks = t.looks })
  search_bounded t end read reads =
      let placed = searched_placed _ _ _ _ fits _ _ _ within _ _ end.searched in
      counted_bounded t _ (counted_behind end.before _ placed end.last (counting end.places end.before end.searched)) read reads
