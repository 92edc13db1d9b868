-- A visit of a state is a step of the machine on lists.
use Rattle.bites_machine.proofs.Library.{common_steps, ◌≡◌, ℕ, suc, ◌+◌, ◌<◌, ◌≤◌, ⊎_elim, inl, inr, Bool, true, false, cond, List, [], ◌∷◌, ◌++◌, map, take, length, Option, Some, None, refl, sym, ap, ap₂, ◌∙◌, subst, arith, append_assoc, length-append, option_to_list, if◌then◌else◌, ◌==◌, map-append, append-nil, length-map, piece, Look, Among, at, targets_of, is_match, taking, looking, next_character, takes_by, Walking, moved, visited, thread_on, Pool, with_pending, awaiting, slots_at, Frames, framed, frame_at, frame_of, first_match_of, walking_of, next_of, AddsThread, lets_on, ArePending, IsStarted, VisitsTo, Thread, Frame, Scratch, in_ranges, MachineThread, State, char_state as char, fail, goto, ranges, splits}
use Rattle.bites_spec.specs.Closure as closure
use Rattle.bites_machine.specs.declared.vm.closure.FirstMatch.{FirstMatch}
use Rattle.bites_machine.proofs.model.MachineWalks.{gone, taken}
use Rattle.std.specs.Bool.{MatchBool}

-- the bound on pending slots may be larger
pub pending_more : (pool : Pool) (a b : ℕ) (fs : List Frame) → a ≤ b → ArePending pool a fs → ArePending pool b fs
pending_more pool a b [] le pending_len = tt
pending_more pool a b (f ∷ fs) le pending_len = (omega (arith, pending_len.0, le), pending_len.1, pending_len.2)

-- the frames of a split have the pending slots of the thread
pub pending_framed : (pool : Pool) (f : Frame) (qs : List ℕ) (fs : List Frame) → ArePending pool f.pending_len (f ∷ fs) → ArePending pool f.pending_len (framed f.pending_len qs ++ fs)
pending_framed pool f [] fs pending_len = pending_len.2
pending_framed pool f (q ∷ qs) fs pending_len = (omega arith, pending_len.1, pending_framed pool f qs fs pending_len)

-- frames of known states
abbrev pub AreKnown : ℕ → List Frame → Type 0
AreKnown n fs = (g : Frame) → Among fs g → g.state < n

pub known_framed : (n pending_len : ℕ) (qs : List ℕ) (fs : List Frame) → ((q : ℕ) → Among qs q → q < n) → AreKnown n fs → AreKnown n (framed pending_len qs ++ fs)
known_framed n pending_len [] fs targets known g h = known g h
known_framed n pending_len (q ∷ qs) fs targets known g h =
    ⊎_elim (λ (e : frame_at pending_len q ≡ g). rw (← e) (targets q (inl refl))) (λ l. known_framed n pending_len qs fs (λ r m. targets r (inr m)) known g l) h

module _ (hay : List ℕ) (longest : Bool) (place : ℕ) where
  -- the scratch with another stack and other pending slots
  abbrev pub with_stack : Scratch → Frames → List ℕ → Scratch
  with_stack old s pending = record { visited_set = old.visited_set; stack = s; rows = awaiting pending old.rows; next = old.next; first_match = old.first_match }

  -- a state whose edges stay at the place
  pub beside : (st : State) (t : Thread) (f : Frame) (old : Scratch) (s : Frames) (pending : List ℕ) (slots : List (Option ℕ)) (on : Option Frame) → is_match st ≡ false →
      ((rest : List MachineThread) (w : Walking) → visited hay longest place st (frame_of place old.rows t f) rest w ≡ gone hay longest place st (frame_of place old.rows t f) rest w) →
      map (frame_of place (awaiting pending old.rows) t) (option_to_list on ++ s.frames) ≡ moved hay longest place st (frame_of place old.rows t f) ++ map (frame_of place old.rows t) old.stack.frames →
      ArePending (awaiting pending old.rows) (f.pending_len + 1) (option_to_list on ++ s.frames) → length (option_to_list on ++ s.frames) ≤ length old.stack.frames + length (targets_of st) →
      ((n : ℕ) → ((q : ℕ) → Among (targets_of st) q → q < n) → AreKnown n old.stack.frames → AreKnown n (option_to_list on ++ s.frames)) →
      s.room ≡ old.stack.room → length pending ≡ length old.rows.pending → IsStarted longest t.start old.first_match → VisitsTo hay longest place st t f old (with_stack old s pending) slots slots on
  beside st t f old s waiting slots on plain opens frames pending len known room pending_len starts = record {
    moves = grind (arith, common_steps, append_assoc);
    users = λ others used. record { ref_counts = used.ref_counts; known = used.known; rows = used.rows; nothing = used.nothing; wide = used.wide };
    pending = pending;
    known = known;
    visited_set = refl;
    len = refl;
    frames = len;
    next = omega arith;
    pending_len = pending_len;
    room = room;
    more = refl;
    starts = starts;
    table = record { kept = λ row h. refl; sum = omega arith; rows = refl; slots_per_row = refl; max_slots = refl };
    none = λ e. (e, refl);
  }

  -- the targets of a split as threads
  same_frames : (pool : Pool) (t : Thread) (f : Frame) (qs : List ℕ) →
      map (frame_of place pool t) (framed f.pending_len qs)
      ≡ map (thread_on t.start (with_pending place (take f.pending_len pool.pending) (slots_at pool t.row))) (map (λ q. at q place) qs)
  same_frames pool t f [] = refl
  same_frames pool t f (q ∷ qs) = ap (λ ts. frame_of place pool t (frame_at f.pending_len q) ∷ ts) (same_frames pool t f qs)

  pub visits_splits : (qs : List ℕ) (b : Bool) (t : Thread) (f : Frame) (old : Scratch) (s : Frames) (slots : List (Option ℕ)) (on : Option Frame) →
      option_to_list on ++ s.frames ≡ framed f.pending_len (targets_of (splits qs b)) ++ old.stack.frames → s.room ≡ old.stack.room →
      ArePending old.rows f.pending_len (f ∷ old.stack.frames) → IsStarted longest t.start old.first_match →
      VisitsTo hay longest place (splits qs b) t f old (with_stack old s old.rows.pending) slots slots on
  unfolding closure.visited
  visits_splits qs b t f old s slots on frames room pending_len starts =
      beside _ _ _ _ _ _ _ _ refl (λ rest w. refl)
      (ap (map (frame_of place old.rows t)) frames ∙ map-append (frame_of place old.rows t) (framed f.pending_len (targets_of (splits qs b))) old.stack.frames
      ∙ ap (λ ts. ts ++ map (frame_of place old.rows t) old.stack.frames) (same_frames old.rows t f _))
      (subst (ArePending old.rows (f.pending_len + 1)) (sym frames) (pending_more old.rows _ _ _ (omega arith) (pending_framed old.rows f _ _ pending_len)))
      (omega (arith, ap length frames, length-append (framed f.pending_len (targets_of (splits qs b))) old.stack.frames, length-map (targets_of (splits qs b)) (frame_at f.pending_len)))
      (λ n targets known g h. known_framed _ _ _ _ targets known g (subst (λ (gs : List Frame). Among gs g) frames h)) room refl starts

  let_on : (look : Option Look) (q : ℕ) → lets_on look hay place ≡ true → looking hay look q place ≡ at q place ∷ []
  let_on h q e = grind (arith, common_steps)

  pub visits_on : (q : ℕ) (look : Option Look) (t : Thread) (f : Frame) (old : Scratch) (slots : List (Option ℕ)) → lets_on look hay place ≡ true →
      ArePending old.rows f.pending_len (f ∷ old.stack.frames) → IsStarted longest t.start old.first_match →
      VisitsTo hay longest place (goto q look) t f old old slots slots (Some (frame_at f.pending_len q))
  unfolding closure.visited
  visits_on q look t f old slots e pending_len starts =
      beside (goto q look) t f old old.stack old.rows.pending slots (Some (frame_at f.pending_len q)) refl (λ rest w. refl)
      (ap (λ ss. map (thread_on t.start (with_pending place (take f.pending_len old.rows.pending) (slots_at old.rows t.row))) ss ++ map (frame_of place old.rows t) old.stack.frames) (sym (let_on look q e)))
      (omega arith, pending_len.1, pending_len.2) (omega arith)
      (λ n targets known g h. known_framed n f.pending_len (q ∷ []) old.stack.frames targets known g h) refl refl starts

  pub visits_not_on : (q : ℕ) (look : Option Look) (t : Thread) (f : Frame) (old : Scratch) (slots : List (Option ℕ)) → lets_on look hay place ≡ false →
      ArePending old.rows f.pending_len (f ∷ old.stack.frames) → IsStarted longest t.start old.first_match →
      VisitsTo hay longest place (goto q look) t f old old slots slots None
  unfolding closure.visited
  visits_not_on q look t f old slots e pending_len starts = grind (arith, common_steps, beside, pending_more)

  pub visits_fail : (t : Thread) (f : Frame) (old : Scratch) (slots : List (Option ℕ)) →
      ArePending old.rows f.pending_len (f ∷ old.stack.frames) → IsStarted longest t.start old.first_match →
      VisitsTo hay longest place fail t f old old slots slots None
  unfolding closure.visited
  visits_fail t f old slots pending_len starts = grind (arith, common_steps, beside, pending_more)

  -- whether a state that takes a character does
  taking_by : (test : ℕ → Bool) (q : ℕ) → taking hay test q place ≡ (if takes_by test (next_character hay place) then at q (place + (piece hay place).len) ∷ [] else [])
  taking_by test q = grind arith

  -- frames under rows with equal pending slots and equal slots of the thread
  frames_kept : (pool next : Pool) (t : Thread) (fs : List Frame) → next.pending ≡ pool.pending → slots_at next t.row ≡ slots_at pool t.row →
      map (frame_of place next t) fs ≡ map (frame_of place pool t) fs
  frames_kept pool next t fs pending slots = grind (arith, common_steps)

  pub pending_kept : (pool next : Pool) (max_slots : ℕ) (fs : List Frame) → next.pending ≡ pool.pending → next.slots_per_row ≡ pool.slots_per_row → ArePending pool max_slots fs → ArePending next max_slots fs
  pending_kept pool next max_slots [] pending slots_per_row pending_len = tt
  pending_kept pool next max_slots (f ∷ fs) pending slots_per_row pending_len = grind (arith, common_steps, (pending_kept pool next f.pending_len fs pending slots_per_row pending_len.2))

  module _ (st : State) (target : ℕ) (test : ℕ → Bool) (plain : is_match st ≡ false)
      (opens : (u : MachineThread) (rest : List MachineThread) (w : Walking) → visited hay longest place st u rest w ≡ taken hay longest place st u rest w)
      (leads : (u : MachineThread) → moved hay longest place st u ≡ map (thread_on u.start u.slots) (taking hay test target place)) where
    stays_out : (t : Thread) (f : Frame) (old : Scratch) (slots : List (Option ℕ)) → takes_by test (next_character hay place) ≡ false →
        ArePending old.rows f.pending_len (f ∷ old.stack.frames) → IsStarted longest t.start old.first_match → VisitsTo hay longest place st t f old old slots slots None
    stays_out t f old slots not pending_len starts =
        beside st t f old old.stack old.rows.pending slots None plain (λ rest w. opens (frame_of place old.rows t f) rest w ∙ to_gone rest w) (ap (λ ts. ts ++ map (frame_of place old.rows t) old.stack.frames) (sym none))
        (pending_more old.rows f.pending_len (f.pending_len + 1) old.stack.frames (omega arith) pending_len.2) (omega arith) (λ n targets known g h. known g h) refl refl starts
      where
        none : moved hay longest place st (frame_of place old.rows t f) ≡ []
        none =
            leads (frame_of place old.rows t f)
            ∙ ap (map (thread_on t.start (with_pending place (take f.pending_len old.rows.pending) (slots_at old.rows t.row))))
            (taking_by test target ∙ ap (λ b. cond b (at target (place + (piece hay place).len) ∷ []) []) not)

        to_gone : (rest : List MachineThread) (w : Walking) → taken hay longest place st (frame_of place old.rows t f) rest w ≡ gone hay longest place st (frame_of place old.rows t f) rest w
        to_gone rest w = grind (arith, common_steps, none, append-nil)

    goes_in : (t : Thread) (f : Frame) (old new : Scratch) (slots : List (Option ℕ)) → takes_by test (next_character hay place) ≡ true → AddsThread place target f.pending_len t old new →
        ArePending old.rows f.pending_len (f ∷ old.stack.frames) → IsStarted longest t.start old.first_match → VisitsTo hay longest place st t f old new slots slots None
    goes_in t f old new slots does puts pending_len starts = record {
      moves = λ others seen looks used.
          let frames : map (frame_of place new.rows t) new.stack.frames ≡ map (frame_of place old.rows t) old.stack.frames = grind (arith, common_steps, frames_kept) in
          opens (frame_of place old.rows t f) (map (frame_of place old.rows t) old.stack.frames) (walking_of place t old slots (f ∷ old.stack.frames) seen looks)
          ∙ ap (λ ts. record { stack = map (frame_of place old.rows t) old.stack.frames; seen = f.state ∷ seen; next = next_of old ++ ts; first_match = first_match_of old.first_match slots; looks = suc looks })
          (leads (frame_of place old.rows t f)
          ∙ ap (map (thread_on t.start (with_pending place (take f.pending_len old.rows.pending) (slots_at old.rows t.row))))
          (taking_by test target ∙ ap (λ b. cond b (at target (place + (piece hay place).len) ∷ []) []) does))
          ∙ ap₂ (λ (fs ts : List MachineThread). record { stack = fs; seen = f.state ∷ seen; next = ts; first_match = first_match_of old.first_match slots; looks = suc looks })
          (sym frames) (sym (puts.next others used))
          ∙ ap (λ (h : Option FirstMatch). record { stack = map (frame_of place new.rows t) new.stack.frames; seen = f.state ∷ seen; next = next_of new; first_match = first_match_of h slots; looks = suc looks })
          (sym puts.only.first_match);
      users = puts.users;
      pending = pending_kept old.rows new.rows (f.pending_len + 1) new.stack.frames puts.only.pending puts.only.table.slots_per_row
          (rw puts.only.stack (pending_more old.rows f.pending_len (f.pending_len + 1) old.stack.frames (omega arith) pending_len.2));
      known = λ n targets known g h. known g (rw (← puts.only.stack) h);
      visited_set = puts.only.visited_set;
      len = refl;
      frames = omega (arith, ap (λ (s : Frames). length s.frames) puts.only.stack);
      next = omega (arith, puts.len);
      pending_len = ap length puts.only.pending;
      room = ap (λ (s : Frames). s.room) puts.only.stack;
      more = puts.only.room;
      starts = subst (IsStarted longest t.start) (sym puts.only.first_match) starts;
      table = puts.only.table;
      none = λ e. (sym puts.only.first_match ∙ e, refl);
    }

    pub visits_taken : (t : Thread) (f : Frame) (old new : Scratch) (slots : List (Option ℕ)) (takes : Bool) → takes ≡ takes_by test (next_character hay place) →
        MatchBool takes (AddsThread place target f.pending_len t old new) (new ≡ old) →
        ArePending old.rows f.pending_len (f ∷ old.stack.frames) → IsStarted longest t.start old.first_match → VisitsTo hay longest place st t f old new slots slots None
    visits_taken t f old new slots true e put pending_len starts = goes_in t f old new slots (sym e) put pending_len starts
    visits_taken t f old new slots false e same pending_len starts = rw same (stays_out t f old slots (sym e) pending_len starts)

  pub visits_char : (q c : ℕ) (t : Thread) (f : Frame) (old new : Scratch) (slots : List (Option ℕ)) (takes : Bool) → takes ≡ takes_by (λ d. d == c) (next_character hay place) →
      MatchBool takes (AddsThread place q f.pending_len t old new) (new ≡ old) →
      ArePending old.rows f.pending_len (f ∷ old.stack.frames) → IsStarted longest t.start old.first_match → VisitsTo hay longest place (char q c) t f old new slots slots None
  unfolding closure.visited
  visits_char q c = visits_taken (char q c) q (λ d. d == c) refl (λ u rest w. refl) (λ u. refl)

  pub visits_ranges : (q : ℕ) (rs : List (ℕ × ℕ)) (t : Thread) (f : Frame) (old new : Scratch) (slots : List (Option ℕ)) (takes : Bool) → takes ≡ takes_by (in_ranges rs) (next_character hay place) →
      MatchBool takes (AddsThread place q f.pending_len t old new) (new ≡ old) →
      ArePending old.rows f.pending_len (f ∷ old.stack.frames) → IsStarted longest t.start old.first_match → VisitsTo hay longest place (ranges q rs) t f old new slots slots None
  unfolding closure.visited
  visits_ranges q rs = visits_taken (ranges q rs) q (in_ranges rs) refl (λ u rest w. refl) (λ u. refl)
