-- To explore a frame is a step of the machine on lists. Which states are members of the visited set, and what is left to visit.
use Rattle.bites_spec.specs.Closure as closure
use Rattle.bites_machine.proofs.Library.{common_steps, ◌≡◌, ℕ, zero, suc, ◌+◌, ◌<◌, ◌⊎◌, Bool, true, false, cond, List, [], ◌∷◌, ◌++◌, length, Option, None, refl, ap, arith, eq-eqb, ◌==◌, slice_index_or, slice_set, option_to_list, MatchOption, list_any, length-set, sum_by-set, count_by-le-length, Among, IsNew, Configuration, at, targets_of, state_at, seen_here, visited_before, edges_left, member_count, Frame, State, Among-right, row_of, Bor, inl, inr, map, sym, ap₂, ◌∙◌, ne_eqb, get_or-set_same, get_or-set_other, Record, visited, Frames, states_of, IsStep, IsVisited, WalkState, walk_state, states_in, frame_of, walking_of, VisitsTo, exploring, IsReady, Explores, StoredState, Position, Thread, Scratch, Counted}
use Rattle.std.proofs.Math.Numerals.{suc-eq-add-one}
use Rattle.bites_machine.proofs.tables.UsedLemmas.{row_kept}
use Rattle.bites_machine.proofs.model.MachineWalks.{step_seen, step_new}
use Rattle.bites_machine.proofs.steps.VisitLemmas.{pending_more}

-- a state more is a member
pub member_more : (visited_set : List Bool) (q : ℕ) → q < length visited_set → slice_index_or visited_set q false ≡ false → member_count (slice_set visited_set q true) ≡ member_count visited_set + 1
member_more visited_set q lt new = grind (arith, common_steps, sum_by-set)

-- while a state is no member, there are fewer members than states
pub not_all_members : (visited_set : List Bool) (q : ℕ) → q < length visited_set → slice_index_or visited_set q false ≡ false → member_count visited_set < length visited_set
not_all_members visited_set q lt new =
    omega (arith, member_more visited_set q lt new, count_by-le-length (λ (m : Bool). m) (slice_set visited_set q true), length-set visited_set q true)

-- the edges of a state that is a member now
pub edges_of_member : (states : List State) (visited_set : List Bool) (q : ℕ) → length visited_set ≡ length states → q < length states → slice_index_or visited_set q false ≡ false →
    edges_left states visited_set ≡ edges_left states (slice_set visited_set q true) + length (targets_of (state_at states q))
edges_of_member [] visited_set q len lt new = absurd (omega arith)
edges_of_member (s ∷ states) [] q len lt new = absurd (omega (arith, len))
edges_of_member (s ∷ states) (m ∷ visited_set) zero len lt new = grind (arith, common_steps)
edges_of_member (s ∷ states) (m ∷ visited_set) (suc q) len lt new = grind (arith, common_steps, (edges_of_member states visited_set q))

pub seen_more : (q place : ℕ) (vs : List Configuration) → seen_here place (at q place ∷ vs) ≡ q ∷ seen_here place vs
seen_more q place vs = ap (λ (b : Bool). cond b (q ∷ seen_here place vs) []) (eq-eqb place place refl)

-- a configuration that was visited was so here, or before
was_visited : (q place : ℕ) (vs : List Configuration) → Among vs (at q place) → (list_any (λ x. x == q) (seen_here place vs) ≡ true) ⊎ Among (visited_before place vs) (at q place)
was_visited q place [] h = absurd h
was_visited q place (v ∷ vs) h = grind (arith, common_steps, eq-eqb, (was_visited q place vs))

-- a state that is no member was not visited here
pub not_visited : (q place : ℕ) (vs : List Configuration) → list_any (λ x. x == q) (seen_here place vs) ≡ false → ((v : Configuration) → Among (visited_before place vs) v → v.place < place) → IsNew (at q place) vs
not_visited q place vs new before h = grind (arith, common_steps, was_visited)

-- the stack, one frame less
pub popped : (o : Option Frame) (old new : List Frame) → MatchOption o ((old ≡ []) × (new ≡ [])) (λ f. old ≡ f ∷ new) → option_to_list o ++ new ≡ old
popped g old new h = grind (arith, common_steps)

-- where nothing came off the stack, nothing is left on it
pub none_popped : (o : Option Frame) (old new : List Frame) → MatchOption o ((old ≡ []) × (new ≡ [])) (λ f. old ≡ f ∷ new) → o ≡ None → new ≡ []
none_popped g old new h e = grind (arith, common_steps)

module _ (here : Position) (t : Thread) (f : Frame) (old : WalkState) where
  abbrev place : ℕ
  place = here.place

  abbrev was : Record
  was = old.counted.walked

  -- a state that was visited here is explored
  pub explores_again : (counted : Counted) (m : List Bool) (s : Frames) (on : Option Frame) →
      IsReady here t (f ∷ old.scratch.stack.frames) old → slice_index_or old.scratch.visited_set f.state false ≡ true → m ≡ old.scratch.visited_set →
      option_to_list on ++ s.frames ≡ old.scratch.stack.frames → s.room ≡ old.scratch.stack.room → counted.states ≡ old.counted.states → IsStep was counted.walked →
      (on ≡ None → s.frames ≡ []) →
      Explores here t f old (walk_state counted (record { visited_set = m; stack = s; rows = old.scratch.rows; next = old.scratch.next; first_match = old.scratch.first_match }) old.slots) on
  explores_again counted m s on r is_member same frames room states looked gone =
      let edges : edges_left (states_of counted.states.now) m ≡ edges_left (states_in old) old.scratch.visited_set = grind (arith, common_steps) in
      record {
        ready = grind (arith, common_steps, pending_more);
        keeps = grind (arith, common_steps);
        users = λ others used. used;
        kept = λ others used row h. refl;
        room = room;
        rows = refl;
        gone = gone;
        less = omega (arith, ap length frames, edges);
        steps = λ p is others used. step_seen _ _ p _ _ _ (exploring here t old (f ∷ old.scratch.stack.frames)) refl (sym (r.place.seen f.state (r.known f (inl refl))) ∙ is_member)
            ∙ ap (λ fs. walking_of place t old.scratch old.slots fs (seen_here place was.visits) (suc was.looks)) (sym frames)
            ∙ ap₂ (λ (vs : List Configuration) (n : ℕ). walking_of place t old.scratch old.slots (option_to_list on ++ s.frames) (seen_here place vs) n)
            (sym looked.visits) (suc-eq-add-one _ ∙ sym looked.looks);
      }

  -- another state is explored
  pub explores_new : (counted : Counted) (m : List Bool) (mid : Scratch) (s : Frames) (left : List (Option ℕ)) (first on : Option Frame) →
      IsReady here t (f ∷ old.scratch.stack.frames) old → slice_index_or old.scratch.visited_set f.state false ≡ false → m ≡ slice_set old.scratch.visited_set f.state true →
      VisitsTo here.haystack.now here.longest place (state_at (states_in old) f.state) t f
      (record { visited_set = m; stack = old.scratch.stack; rows = old.scratch.rows; next = old.scratch.next; first_match = old.scratch.first_match }) mid old.slots left first →
      option_to_list on ++ s.frames ≡ option_to_list first ++ mid.stack.frames → s.room ≡ mid.stack.room →
      counted.states ≡ old.counted.states → (mid_record : Record) → IsStep was mid_record → IsVisited (at f.state place) mid_record counted.walked →
      (on ≡ None → s.frames ≡ []) →
      Explores here t f old (walk_state counted (record { visited_set = mid.visited_set; stack = s; rows = mid.rows; next = mid.next; first_match = mid.first_match }) left) on
  explores_new counted m mid s left first on r not_member m_is v frames room states mid_record looked visited_is gone =
      let now : Record = counted.walked in
      let visits : now.visits ≡ at f.state place ∷ was.visits = visited_is.visits ∙ ap (λ (vs : List Configuration). at f.state place ∷ vs) looked.visits in
      let looks : now.looks ≡ was.looks + 1 = visited_is.looks ∙ looked.looks in
      let count : length (states_of counted.states.now) ≡ length (states_in old) = ap (λ (b : Bor (List StoredState)). length (states_of b.now)) states in
      let state : f.state < length (states_in old) = r.known f (inl refl) in
      let edges : edges_left (states_in old) old.scratch.visited_set ≡ edges_left (states_of counted.states.now) mid.visited_set + length (targets_of (state_at (states_in old) f.state)) = grind (arith, common_steps, edges_of_member) in
      record {
        ready = record {
          place = grind (arith, common_steps, length-set, get_or-set_same, eq-eqb, seen_more, get_or-set_other, ne_eqb);
          known = λ g h. omega (arith, v.known (length (states_in old)) (r.place.sound f.state state).1 (λ k l. r.known k (inr l)) g (rw (← frames) h), count);
          pending = grind (arith, common_steps, pending_more);
          stack = omega (arith, ap length frames, v.frames, edges, r.stack, room, v.room);
          rows = omega (arith, r.rows, v.table.rows, count);
          starts = v.starts;
        };
        keeps = grind (arith, common_steps);
        users = v.users;
        kept = λ others used row h. row_kept old.scratch.rows mid.rows _ used v.table.kept row (inr (Among-right (map row_of old.scratch.next.threads) _ _ h));
        room = room ∙ v.room;
        rows = v.table.rows;
        gone = gone;
        less = omega (arith, ap length frames, v.frames, edges);
        steps = λ p is others used. step_new _ _ p _ _ _ (exploring here t old (f ∷ old.scratch.stack.frames)) refl (sym (r.place.seen f.state state) ∙ not_member)
            ∙ ap (λ (ss : List State). visited here.haystack.now here.longest place (state_at ss f.state) (frame_of place old.scratch.rows t f) (map (frame_of place old.scratch.rows t) old.scratch.stack.frames)
            (exploring here t old (f ∷ old.scratch.stack.frames))) is ∙ v.moves others (seen_here place was.visits) was.looks used
            ∙ ap (λ fs. walking_of place t mid left fs (f.state ∷ seen_here place was.visits) (suc was.looks)) (sym frames)
            ∙ ap₂ (λ (qs : List ℕ) (n : ℕ). walking_of place t mid left (option_to_list on ++ s.frames) qs n)
            (sym (ap (seen_here place) visits ∙ seen_more _ _ _)) (suc-eq-add-one _ ∙ sym looks);
      }
