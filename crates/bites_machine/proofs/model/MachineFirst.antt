-- The machine finds the first run.
use Rattle.bites_machine.proofs.Library.{common_steps, ◌≡◌, ℕ, ◌+◌, ◌<◌, ◌≤◌, Bool, true, false, cond, List, [], ◌∷◌, ◌++◌, take, length, Option, Some, None, option_map, refl, sym, ap, ap₂, ◌∙◌, inl, ⊎_elim, true≢false, arith, replicate, option_and_then, option_or, append-nil, map-append, piece, Among, first_among, last_of, Program, Configuration, at, state_at, is_match, IsWellFormed, Run, leads, matches, slots, run_of, first_run_from, first_run, same_is, same_refl, match_ends, sound, pending, or_assoc, MachineThread as Thread, Walking, Searching, kept, moved, started, begun, Searches, is_over, SearchedTo, Searched, starts_of, or_none, none-some}
use Rattle.bites_machine.proofs.model.PathLemmas.{walk_ends}
use Rattle.bites_machine.proofs.model.MachineWalks.{was_seen, Keeps, walk_keeps}
use Rattle.bites_machine.proofs.model.MachineWaiting.{run_writes, Outcome, outcome, worth, wait, wait_all, marks, run, pend, pend-append, pend_later, pend_seen, pend_gone, pend_taken, pend_hit, pend_push}
use Rattle.bites_machine.proofs.model.MachineTrace.{trace_inside}
use Rattle.bites_machine.proofs.model.MachineSearch.{later_starts, starts-here, starts_lie, to_come, to_come_later, left_after, IsTraced, traced_keeps, begun_traced, over_cases, IsPlaced, place_within, searched_placed, searched_keeps, configurations_of}

pub or_map : {A B : Type 0} (f : A → B) (o q : Option A) → option_map f (option_or o q) ≡ option_or (option_map f o) (option_map f q)
or_map f h q = grind (arith, common_steps)

module _ (p : Program) (hay : List ℕ) (well : IsWellFormed p) (width : ℕ) (fits : width ≤ p.slots) (anchored : Bool) (start : ℕ) (within : start ≤ length hay) where
  abbrev starts : List ℕ
  starts = starts_of hay anchored start

  abbrev pub pended : (Configuration → Bool) → List (Configuration × (List Configuration → Outcome)) → Option Outcome
  pended seen ws = pend p hay (matches p) (λ s e. e) seen ws

  -- the outcome of the first run from a place
  abbrev pub answer_from : ℕ → Option Outcome
  answer_from k = option_map (worth p hay 0 (replicate width None)) (run p hay (matches p) (λ s e. e) (λ q. false) (at p.start k))

  abbrev pub total : Option Outcome
  total = first_among answer_from starts

  module _ (i : ℕ) (here : i ≤ length hay) (old : List Configuration) (rest : Option Outcome) where
    abbrev there : ℕ
    there = i + (piece hay i).len

    abbrev pub value : List ℕ → List Thread → List Thread → Option Thread → Option Outcome
    value seen next stack first_match =
        option_or (pended (marks p hay i seen) (wait_all p hay there next ++ wait_all p hay i stack)) (option_or (option_map outcome first_match) rest)

    -- the first success of all that wait, else the first match, else what was there before, is the result
    pub record IsWorth (w : Walking) : Type 0 where
      pub traced : IsTraced p hay false width starts fits i old w
      pub worth_is : value w.seen w.next w.stack w.first_match ≡ total
      pub done : (t : Thread) → w.first_match ≡ Some t → w.stack ≡ []

    module _ (t : Thread) (others : List Thread) (w : Walking) (is : w.stack ≡ t ∷ others) (now : IsWorth w) where
      behind : (u : Thread) → Among w.next u → i < there
      behind u h = let some = (now.traced.next u h).0 in omega arith

      inside : t.state < length p.states
      inside =
          (trace_inside p hay false width starts well (λ k h. (starts_lie hay anchored start k h).1) (configurations_of i old w.seen) i t
          (now.traced.stack t (rw is (inl refl)))).0

      -- the value changes as what waits does
      changed : (seen : List ℕ) (next stack : List Thread) →
          pended (marks p hay i w.seen) (wait_all p hay there w.next ++ wait_all p hay i (t ∷ others))
          ≡ pended (marks p hay i seen) (wait_all p hay there next ++ wait_all p hay i stack) →
          value seen next stack w.first_match ≡ total
      changed seen next stack e = grind (arith, common_steps)

      none_hit : (u : Thread) (l : List Thread) → w.first_match ≡ Some u → l ≡ []
      none_hit u l e = grind (arith, common_steps)

      hit_value : was_seen hay false i p w.seen t.state ≡ false → is_match (state_at p.states t.state) ≡ true →
          (o : Option Thread) → w.first_match ≡ o → value (t.state ∷ w.seen) w.next (kept hay false (option_or o (Some t)) others) (option_or o (Some t)) ≡ total
      hit_value new found None none =
          ap (λ (l : List (Configuration × (List Configuration → Outcome))). option_or (pended (marks p hay i (t.state ∷ w.seen)) l) (Some (outcome t))) (append-nil (wait_all p hay there w.next))
          ∙ sym (or_assoc (pended (marks p hay i (t.state ∷ w.seen)) (wait_all p hay there w.next)) (Some (outcome t)) rest)
          ∙ ap (λ (o : Option Outcome). option_or o rest) (sym (pend_hit p _ _ (λ s e. e) well false _ _ here _ _ _ _ behind new inside found))
          ∙ ap (λ (o : Option Thread). value w.seen w.next (t ∷ others) o) (sym none)
          ∙ ap (λ (l : List Thread). value w.seen w.next l w.first_match) (sym is) ∙ now.worth_is
      hit_value new found (Some u) some = let e : t ∷ others ≡ [] = none_hit u (t ∷ others) some in cc

    pub worth_keeps : Keeps hay false i p IsWorth
    worth_keeps =
        let traces = traced_keeps p hay false width starts fits i old in record {
          on_seen = λ t others w is was now. record {
            traced = traces.on_seen t others w is was now.traced;
            worth_is = search (arith, changed, pend_seen, here, behind);
            done = λ u e. none_hit t others w is now u others e;
          };
          on_match = grind (arith, common_steps, hit_value);
          on_taken = λ t others w is new none one over now. record {
            traced = traces.on_taken t others w is new none one over now.traced;
            worth_is = changed t others w is now (t.state ∷ w.seen) (w.next ++ moved hay false i (state_at p.states t.state) t) others
                (pend_taken p hay (matches p) (λ s e. e) well false i there here w.seen w.next t others (behind t others w is now) new (inside t others w is now)
                none (λ v e. (over v e).1));
            done = λ u e. none_hit t others w is now u others e;
          };
          on_gone = λ t others w is new none beside now. record {
            traced = traces.on_gone t others w is new none beside now.traced;
            worth_is = search (arith, changed, pend_gone, here, behind, inside);
            done = λ u e. none_hit t others w is now u (moved hay false i (state_at p.states t.state) t ++ others) e;
          };
        }

  -- what the best so far is worth, and else the starts to come
  abbrev rest_of : Option Thread → List ℕ → Option Outcome
  rest_of best later = option_or (option_map outcome best) (first_among answer_from later)

  abbrev value_at : ℕ → List Thread → Option Thread → List ℕ → Option Outcome
  value_at i threads best later = option_or (pended (λ q. false) (wait_all p hay i threads)) (rest_of best later)

  pend_none : pended (λ q. false) [] ≡ None
  unfolding pending
  pend_none = refl

  begun_value : (s : Searching) (le : s.place ≤ length hay) (b : Bool) → (b ≡ true → s.best ≡ None) →
      value_at s.place s.threads s.best (cond b (starts_of hay anchored s.place) []) ≡ total →
      value s.place le s.visits (rest_of s.best (cond b (later_starts hay anchored s.place) [])) [] [] (s.threads ++ cond b (started hay false p width s.place ∷ []) []) None ≡ total
  begun_value s le false none e = grind (arith, common_steps, wait_all, append-nil, map-append, wait, pend-append, later_starts, or_assoc, starts-here)
  begun_value s le true none e = grind (arith, common_steps, pend_push, later_starts, or_assoc, wait_all, starts-here)

  abbrev IsPlacedHere : Searching → Type 0
  IsPlacedHere s = IsPlaced p hay false width fits anchored false start within s

  -- one place more
  module _ (s t : Searching) (placed : IsPlacedHere s) (place : Searches hay false p width anchored s t)
      (is : value_at s.place s.threads s.best (to_come hay anchored s) ≡ total) where
    here : s.place ≤ length hay
    here = place_within p hay false width fits anchored false start within s placed

    abbrev later : List ℕ
    later = to_come_later hay anchored s

    last_worth : IsWorth s.place here s.visits (rest_of s.best later) place.last
    last_worth =
        walk_keeps hay false s.place p _ (worth_keeps s.place here s.visits (rest_of s.best later)) (begun hay false p width s) place.last place.walks record {
          traced = begun_traced p hay false width starts fits s placed.starts placed.traced;
          worth_is = begun_value s here s.starts placed.none is;
          done = λ u e. absurd (none-some u e);
        }

    -- the place after it
    abbrev next_place : ℕ
    next_place = s.place + (piece hay s.place).len

    -- with the starts that are left after the place
    value_behind : value_at next_place t.threads t.best (left_after place.last.first_match later) ≡ total
    value_behind = grind (arith, common_steps, left_after, pend_later, last_worth, marks, append-nil, or_map, or_assoc)

    -- with a piece, the search continues at the place after it
    value_on : 0 < (piece hay s.place).len → value_at t.place t.threads t.best (to_come hay anchored t) ≡ total
    value_on some = grind (arith, common_steps, value_behind)

    -- at the end nothing is left but the best
    value_end : is_over hay false p width anchored false s.place t ≡ true → option_map outcome t.best ≡ total
    value_end over =
        ⊎_elim (λ nothing. sym (or_none _) ∙ ap (λ (o : Option Outcome). option_or o (rest_of t.best [])) (sym pend_none)
        ∙ ap₂ (λ (ts : List Thread) (l : List ℕ). value_at next_place ts t.best l) (sym nothing.0) (sym nothing.1) ∙ value_behind)
        (λ never. absurd (true≢false (sym never))) (over_cases p _ false width starts fits _ s t placed.starts placed.traced place false here over)

  answering : (n : ℕ) (s : Searching) → SearchedTo hay false p width anchored false start n s → value_at s.place s.threads s.best (to_come hay anchored s) ≡ total
  answering =
      searched_keeps p hay false width fits anchored false start within (λ s. value_at s.place s.threads s.best (to_come hay anchored s) ≡ total)
      (grind (arith, common_steps, pend_none)) (λ s t placed now place on. value_on s t placed place now)

  -- the best at the end is the first success
  best_is_total : (t : Searching) → Searched hay false p width anchored false start t → option_map outcome t.best ≡ total
  best_is_total t end =
      let placed = searched_placed p hay false width fits anchored false start within end.places end.before end.searched in
      value_end end.before t placed end.last (answering end.places end.before end.searched) end.over

  -- the first `width` slots of a run
  abbrev pub front_of : Run → List (Option ℕ)
  front_of r = take width (slots p r)

  from_is : (k : ℕ) (o : Option (List Configuration)) → run p hay (matches p) (λ s e. e) (λ q. false) (at p.start k) ≡ o →
      option_map (λ (x : Outcome). x.slots) (option_map (worth p hay 0 (replicate width None)) o) ≡ option_map front_of (option_and_then (run_of p hay k) o)
  from_is k None e = refl
  from_is k (Some l) e =
      let h = sound _ _ _ same_is same_refl (match_ends p hay) _ (λ q. false) _ _ e in
      rw h.1 (ap (λ (x : List (Option ℕ)). Some x)
      (run_writes p _ (record { start = k; configurations = h.0; end = (last_of (at p.start k) h.0).place }) fits (walk_ends (leads p hay) (λ q. matches p q ≡ true) (at p.start k) h.0 h.2)))

  pub answer_is : (k : ℕ) → option_map (λ (x : Outcome). x.slots) (answer_from k) ≡ option_map front_of (first_run_from p hay k)
  unfolding first_run_from
  answer_is k = from_is k (run p hay (matches p) (λ s e. e) (λ q. false) (at p.start k)) refl

  map_among : {B C : Type 0} (f : B → C) (g : ℕ → Option B) (h : ℕ → Option C) (ks : List ℕ) → ((k : ℕ) → option_map f (g k) ≡ h k) →
      option_map f (first_among g ks) ≡ first_among h ks
  map_among f g h [] same = refl
  map_among f g h (k ∷ ks) same = or_map f (g k) (first_among g ks) ∙ ap₂ option_or (same k) (map_among f g h ks same)

  total_is : option_map (λ (x : Outcome). x.slots) total ≡ option_map front_of (first_run p hay starts)
  unfolding first_run
  total_is = map_among (λ (x : Outcome). x.slots) _ (λ k. option_map front_of (first_run_from p hay k)) _ answer_is ∙ sym (map_among front_of (first_run_from p hay) _ starts (λ k. refl))

  -- A search that is not stopped early ends with the first slots of the first run, or with nothing if there is none.
  pub first_answer : (t : Searching) → Searched hay false p width anchored false start t →
      option_map (λ b. b.slots) t.best ≡ option_map front_of (first_run p hay starts)
  first_answer t end =
      slots_of t.best ∙ ap (option_map (λ (x : Outcome). x.slots)) (best_is_total t end) ∙ total_is
    where
      slots_of : (o : Option Thread) → option_map (λ b. b.slots) o ≡ option_map (λ (x : Outcome). x.slots) (option_map outcome o)
      slots_of h = grind (arith, common_steps)
