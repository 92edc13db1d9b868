-- The places where a search may begin, and what every place keeps; the places of a search are those from its start on.
use Rattle.bites_machine.proofs.Library.{common_steps, ◌≡◌, ℕ, ◌+◌, ◌<◌, ◌≤◌, Bool, true, false, cond, List, [], ◌∷◌, length, Option, Some, None, arith, if◌then◌else◌, piece, places, start_alone, AreStarts, step_len, Among, Program, MachineThread as Thread, Searching, Searches, starts_of, Among-places, all_are_starts, alone_is_start, alone_within, alone_past, start_lies, places-here, places-past, zero, suc, ◌||◌, ◌&&◌, ◌++◌, map, refl, sym, ap, ◌∙◌, subst, inl, inr, ⊎_elim, ◌⊎◌, true≢false, eq-eqb, eqb-true, ◌==◌, is_some, not, le-leb, leb-true, option_or, or_cases, Configuration, at, state_at, leads, Walking, with_write, thread_on, moved, begun, at_start, is_over, SearchedTo, is_empty, piece_some, Among-right, Among-append, place_on, Among-map, option_or_cases}
use Rattle.bites_machine.proofs.model.MachineWalks.{Keeps, walk_keeps}
use Rattle.bites_machine.proofs.model.MachineTrace.{Trace, Found, trace_more, found_more, trace_start, trace_on, found_here, Among-kept}

-- those that are left after a place: none once there is a match
abbrev pub left_after : Option Thread → List ℕ → List ℕ
left_after None rest = rest
left_after (Some t) rest = []

module _ (hay : List ℕ) (anchored : Bool) where
  -- those after the first
  abbrev pub later_starts : ℕ → List ℕ
  later_starts start = if anchored then [] else places hay (start + step_len hay start)

  are_starts : (b : Bool) (start : ℕ) → AreStarts hay start (cond b (start_alone hay start) (places hay start))
  are_starts true start = alone_is_start hay start
  are_starts false start = all_are_starts hay start

  pub starts_are : (start : ℕ) → AreStarts hay start (starts_of hay anchored start)
  starts_are start = are_starts anchored start

  -- they lie at the start or after it, and in the haystack
  pub starts_lie : (start k : ℕ) → Among (starts_of hay anchored start) k → (start ≤ k) × (k ≤ length hay)
  starts_lie start = start_lies hay start (starts_of hay anchored start) (starts_are start)

  pub starts-here : (start : ℕ) → start ≤ length hay → starts_of hay anchored start ≡ start ∷ later_starts start
  starts-here start within = grind (arith, common_steps, alone_within, places-here)

  pub starts-past : (start : ℕ) → length hay < start → starts_of hay anchored start ≡ []
  starts-past start past = grind (arith, common_steps, alone_past, places-past)

  -- the places from this one on where the start is still to be walked, if nothing is found
  abbrev pub to_come : Searching → List ℕ
  to_come s = if s.starts then starts_of hay anchored s.place else []

  -- and those after this one
  abbrev pub to_come_later : Searching → List ℕ
  to_come_later s = if s.starts then later_starts s.place else []

  pub come_here : (s : Searching) (k : ℕ) → Among (to_come s) k → s.place ≤ k
  come_here s k h = grind (arith, common_steps, starts_lie)

  pub later_behind : (s : Searching) (k : ℕ) → Among (to_come_later s) k → s.place < k
  later_behind s k h = grind (arith, common_steps, Among-places)

pub nothing_among : {A : Type 0} (xs : List A) → ((x : A) → Among xs x → ⊥) → xs ≡ []
nothing_among [] none = refl
nothing_among (x ∷ xs) none = absurd (none x (inl refl))

module _ (p : Program) (hay : List ℕ) (longest : Bool) (width : ℕ) (anchored earliest : Bool) (start : ℕ) (within : start ≤ length hay) where
  -- a search that is not over goes on to a next place
  pub goes_on : (i : ℕ) (t : Searching) → is_over hay longest p width anchored earliest i t ≡ false → 0 < (piece hay i).len
  goes_on i t on = grind (arith, common_steps, true≢false, eq-eqb)

  -- and no match was enough
  pub still_open : (i : ℕ) (t : Searching) → is_over hay longest p width anchored earliest i t ≡ false → (earliest && is_some t.best) ≡ false
  still_open i t on = grind (arith, common_steps)

-- the configurations that were visited, with those of a place
abbrev pub configurations_of : ℕ → List Configuration → List ℕ → List Configuration
configurations_of i old seen = map (λ q. at q i) seen ++ old

module _ (p : Program) (hay : List ℕ) (longest : Bool) (width : ℕ) (starts : List ℕ) (fits : width ≤ p.slots) where
  abbrev TraceAt : List Configuration → ℕ → Thread → Type 0
  TraceAt visits i t = Trace p hay longest width starts visits i t

  abbrev FoundAt : List Configuration → ℕ → Thread → Type 0
  FoundAt visits end t = Found p hay longest width starts visits end t

  -- where a thread goes from its state
  traced_moved : (visits : List Configuration) (i k : ℕ) (t : Thread) → ((v : Configuration) → Among (leads p hay (at t.state i)) v → v.place ≡ k) → Among visits (at t.state i) →
      TraceAt visits i t → (u : Thread) → Among (moved hay longest i (state_at p.states t.state) t) u → TraceAt visits k u
  traced_moved visits i k t there here tr u h = grind (arith, common_steps, Among-map, trace_on)

  module _ (i : ℕ) (old : List Configuration) where
    abbrev there : ℕ
    there = i + (piece hay i).len

    -- the threads of a walk have come by walks, and its first match has found a run
    pub record IsTraced (w : Walking) : Type 0 where
      pub stack : (t : Thread) → Among w.stack t → Trace p hay longest width starts (configurations_of i old w.seen) i t
      pub next : (t : Thread) → Among w.next t → (0 < (piece hay i).len) × Trace p hay longest width starts (configurations_of i old w.seen) (i + (piece hay i).len) t
      pub first_match : (t : Thread) → w.first_match ≡ Some t → Found p hay longest width starts (configurations_of i old w.seen) i t

    module _ (w : Walking) (t : Thread) (rest : List Thread) (is : w.stack ≡ t ∷ rest) (now : IsTraced w) where
      abbrev visits_now : List Configuration
      visits_now = configurations_of i old (t.state ∷ w.seen)

      top_now : TraceAt visits_now i t
      top_now = trace_more p hay longest width starts (configurations_of i old w.seen) visits_now i t (λ u h. inr h) (now.stack t (rw is (inl refl)))

      rest_now : (u : Thread) → Among rest u → TraceAt visits_now i u
      rest_now u h = trace_more p hay longest width starts (configurations_of i old w.seen) visits_now i u (λ u h. inr h) (now.stack u (rw is (inr h)))

      next_now : (u : Thread) → Among w.next u → (0 < (piece hay i).len) × TraceAt visits_now there u
      next_now u h = grind (arith, common_steps, trace_more)

      hit_now : (u : Thread) → w.first_match ≡ Some u → FoundAt visits_now i u
      hit_now u h = found_more p hay longest width starts (configurations_of i old w.seen) visits_now i u (λ u h. inr h) (now.first_match u h)

    pub traced_keeps : Keeps hay longest i p IsTraced
    traced_keeps = record {
      on_seen = λ t rest w is was now. record { stack = λ u h. now.stack u (rw is (inr h)); next = now.next; first_match = now.first_match };
      on_match = λ t rest w is new found now. record {
        stack = λ u h. rest_now w t rest is now _ (Among-kept hay longest (option_or w.first_match (Some t)) rest u h);
        next = next_now w t rest is now;
        first_match = grind (arith, hit_now, found_here, top_now);
      };
      on_taken = λ t rest w is new none one over now. record {
        stack = rest_now w t _ is now;
        next = λ u h. ⊎_elim (next_now w t rest is now _) (λ a. (
          (over (edge_of _ u a).0 (edge_of t _ a).1).0,
          traced_moved _ _ _ t (λ v e. (over v e).1) (inl refl) (top_now w _ rest is now) u a,
        )) (Among-append w.next (moved hay longest i (state_at p.states t.state) t) u h);
        first_match = hit_now w t rest is now;
      };
      on_gone = λ t rest w is new none beside now. record {
        stack = λ u h. ⊎_elim (λ a. traced_moved _ _ _ t beside (inl refl) (top_now w _ rest is now) u a)
            (rest_now w t rest is now _) (Among-append (moved hay longest i (state_at p.states t.state) t) rest u h);
        next = next_now w t rest is now;
        first_match = hit_now w t rest is now;
      };
    }
      where
        edge_of : (t u : Thread) → Among (moved hay longest i (state_at p.states t.state) t) u → (v : Configuration) × Among (leads p hay (at t.state i)) v
            × (thread_on t.start (with_write (state_at p.states t.state) i t.slots) v ≡ u)
        edge_of t u a = Among-map _ _ _ a

  -- the threads of a search have come by walks, and the best has found a run
  pub record AreTraced (s : Searching) : Type 0 where
    pub threads : (t : Thread) → Among s.threads t → Trace p hay longest width starts s.visits s.place t
    pub best : (t : Thread) → s.best ≡ Some t → (end : ℕ) × Found p hay longest width starts s.visits end t

  -- where the start is walked, a match may begin
  abbrev pub MayBegin : Searching → Type 0
  MayBegin s = s.starts ≡ true → Among starts s.place

  pub begun_traced : (s : Searching) → MayBegin s → AreTraced s → IsTraced s.place s.visits (begun hay longest p width s)
  begun_traced s begins now = grind (arith, common_steps, Among-append, trace_start)

  module _ (anchored : Bool) (s t : Searching) (begins : MayBegin s) (now : AreTraced s) (place : Searches hay longest p width anchored s t) where
    -- the walk of a place is traced when it is over
    pub place_traced : IsTraced s.place s.visits place.last
    place_traced = walk_keeps _ _ _ _ (IsTraced s.place s.visits) (traced_keeps s.place s.visits) _ _ place.walks (begun_traced _ begins now)

    pub traced_on : AreTraced t
    traced_on = subst AreTraced place.is record {
      threads = λ u h. (place_traced.next u h).1;
      best = λ u h. ⊎_elim (λ here. (s.place, place_traced.first_match u here)) (λ before. let f = now.best u before.1 in (
        f.0,
        found_more p hay longest width starts s.visits (configurations_of s.place s.visits place.last.seen) f.0 u (λ x a. Among-right _ _ _ a) f.1,
      )) (option_or_cases _ _ _ h);
    }

    -- Where a search is over, no thread is left and no start is to come, or the first match was enough.
    pub over_cases : (earliest : Bool) → s.place ≤ length hay → is_over hay longest p width anchored earliest s.place t ≡ true →
        ((t.threads ≡ []) × (left_after place.last.first_match (to_come_later hay anchored s) ≡ [])) ⊎ ((earliest && is_some t.best) ≡ true)
    over_cases earliest within over =
        ⊎_elim (λ (e : ((piece hay s.place).len == 0) ≡ true).
        let none = eqb-true (piece hay s.place).len 0 e in
        inl (
          sym (ap (λ (x : Searching). x.threads) place.is) ∙ nothing_among _ (λ u h. let some = (place_traced.next u h).0 in omega arith),
          grind (arith, common_steps, leb-true, places-past, true≢false, le-leb, piece_some),
        )) (λ rest. ⊎_elim inr (λ (e : (not t.starts && is_empty t.threads) ≡ true).
        inl (grind (arith, common_steps, true≢false), grind (arith, common_steps)))
        (or_cases (earliest && is_some t.best) (not t.starts && is_empty t.threads) rest))
        (or_cases ((piece hay s.place).len == 0) ((earliest && is_some t.best) || (not t.starts && is_empty t.threads)) over)

module _ (p : Program) (hay : List ℕ) (longest : Bool) (width : ℕ) (fits : width ≤ p.slots) (anchored earliest : Bool) (start : ℕ) (within : start ≤ length hay) where
  -- where a search is: at a place reached from its start, and if the start is walked there, at one where a match may begin, with nothing found;
  -- its threads have come by walks
  pub record IsPlaced (s : Searching) : Type 0 where
    pub place : Among (places hay start) s.place
    pub starts : s.starts ≡ true → Among (starts_of hay anchored start) s.place
    pub none : s.starts ≡ true → s.best ≡ None
    pub traced : AreTraced p hay longest width (starts_of hay anchored start) fits s

  pub place_within : (s : Searching) → IsPlaced s → s.place ≤ length hay
  place_within s placed = (Among-places hay start s.place placed.place).1

  placed_on : (s t : Searching) → IsPlaced s → Searches hay longest p width anchored s t → 0 < (piece hay s.place).len → IsPlaced t
  placed_on s t placed place some =
      let next : Among (places hay start) t.place = rw (← place.is) (place_on (suc (length hay)) hay start s.place (omega arith) placed.place some) in record {
        place = next;
        starts = grind (arith, common_steps);
        none = grind (arith, common_steps);
        traced = traced_on p hay longest width (starts_of hay anchored start) fits anchored s t placed.starts placed.traced place;
      }

  pub searched_placed : (n : ℕ) (s : Searching) → SearchedTo hay longest p width anchored earliest start n s → IsPlaced s
  searched_placed zero s is = grind (arith, common_steps, places-here, starts-here)
  searched_placed (suc n) t (s, before, place, on) = placed_on s t (searched_placed n s before) place (goes_on p hay longest width anchored earliest start within s.place t on)

  -- what every place keeps, a search keeps
  pub searched_keeps : (P : Searching → Type 0) → P (at_start start) →
      ((s t : Searching) → IsPlaced s → P s → Searches hay longest p width anchored s t → is_over hay longest p width anchored earliest s.place t ≡ false → 0 < (piece hay s.place).len → P t) →
      (n : ℕ) (s : Searching) → SearchedTo hay longest p width anchored earliest start n s → P s
  searched_keeps P first on zero s is = subst P is first
  searched_keeps P first on (suc n) t (s, before, place, open_) = grind (arith, common_steps, searched_placed, goes_on, (searched_keeps P first on n s before))
