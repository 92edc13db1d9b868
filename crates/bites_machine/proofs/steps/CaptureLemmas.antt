-- A visit of a state that writes a slot, or of a match, is a step of the machine on lists.
use Rattle.bites_machine.proofs.Library.{common_steps, ◌≡◌, ℕ, ◌+◌, ◌<◌, ◌≤◌, Bool, true, false, List, [], ◌∷◌, map, take, length, Option, Some, None, refl, sym, ap, ap₂, arith, ltb-true, ltb-false, slice_set, nat_lt, nat_le, if◌then◌else◌, is_some, option_or, filter, length-set, take_more_set, take-set-le, set_past, kept, Pool, with_pending, awaiting, slots_at, frame_at, frame_of, with_table, ArePending, IsStarted, VisitsTo, Thread, Frame, Scratch, MachineThread, capture, match, le-leb}
use Rattle.bites_spec.specs.Closure as closure
use Rattle.bites_machine.proofs.tables.RowLemmas.{with_pending-push, length-with_pending}
use Rattle.bites_machine.proofs.steps.VisitLemmas.{with_stack, beside, pending_more, known_framed}

-- pending slots after those of the frames change nothing for them
module _ (place : ℕ) (old : Pool) (slot : ℕ) (t : Thread) (n : ℕ) (room : n < length old.pending) where
  abbrev new : Pool
  new = awaiting (slice_set old.pending n slot) old

  frames_same : (most : ℕ) (fs : List Frame) → most ≤ n → ArePending old most fs → map (frame_of place new t) fs ≡ map (frame_of place old t) fs
  frames_same most [] le pending_len = refl
  frames_same most (f ∷ fs) le pending_len = grind (arith, common_steps, take-set-le, (frames_same f.pending_len fs))

  pending_same : (most : ℕ) (fs : List Frame) → most ≤ n → ArePending old most fs → ArePending new most fs
  pending_same most [] le pending_len = tt
  pending_same most (f ∷ fs) le pending_len = grind (arith, common_steps, (pending_same f.pending_len fs))

module _ (hay : List ℕ) (longest : Bool) (place : ℕ) where
  -- a slot that is asked for becomes pending
  capture_pending : (q slot : ℕ) (t : Thread) (f : Frame) (old : Scratch) (slots : List (Option ℕ)) → slot < old.rows.slots_per_row → f.pending_len < length old.rows.pending →
      ArePending old.rows f.pending_len (f ∷ old.stack.frames) → IsStarted longest t.start old.first_match →
      VisitsTo hay longest place (capture q slot) t f old (with_stack hay longest place old old.stack (slice_set old.rows.pending f.pending_len slot)) slots slots (Some (frame_at (f.pending_len + 1) q))
  unfolding closure.visited
  capture_pending q slot t f old slots within room pending_len starts =
      let same = frames_same place old.rows slot t f.pending_len room f.pending_len old.stack.frames (omega arith) pending_len.2 in
      let waiting = pending_same place old.rows slot t f.pending_len room f.pending_len old.stack.frames (omega arith) pending_len.2 in
      beside hay longest place (capture q slot) t f old old.stack (slice_set old.rows.pending f.pending_len slot) slots (Some (frame_at (f.pending_len + 1) q)) refl (λ rest w. refl)
      (ap₂ (λ (row : List (Option ℕ)) (fs : List MachineThread). record { state = q; start = t.start; slots = row } ∷ fs) (grind (arith, common_steps, take_more_set, with_pending-push)) same)
      (omega arith, grind (arith, common_steps), pending_more (awaiting (slice_set old.rows.pending f.pending_len slot) old.rows) f.pending_len (f.pending_len + 1) old.stack.frames (omega arith) waiting)
      (omega arith) (λ m targets known g h. known_framed m (f.pending_len + 1) (q ∷ []) old.stack.frames targets known g h) refl (length-set old.rows.pending f.pending_len slot) starts

  -- a slot that is not asked for does not
  capture_passed : (q slot : ℕ) (t : Thread) (f : Frame) (old : Scratch) (slots : List (Option ℕ)) → old.rows.slots_per_row ≤ slot → length (slots_at old.rows t.row) ≡ old.rows.slots_per_row →
      ArePending old.rows f.pending_len (f ∷ old.stack.frames) → IsStarted longest t.start old.first_match →
      VisitsTo hay longest place (capture q slot) t f old old slots slots (Some (frame_at f.pending_len q))
  unfolding closure.visited
  capture_passed q slot t f old slots past wide pending_len starts =
      beside hay longest place (capture q slot) t f old old.stack old.rows.pending slots (Some (frame_at f.pending_len q)) refl (λ rest w. refl)
      (ap (λ (row : List (Option ℕ)). record { state = q; start = t.start; slots = row } ∷ map (frame_of place old.rows t) old.stack.frames)
      (sym (set_past (with_pending place (take f.pending_len old.rows.pending) (slots_at old.rows t.row)) slot (Some place) (omega (arith, wide, past, length-with_pending place (take f.pending_len old.rows.pending) (slots_at old.rows t.row))))))
      (omega arith, pending_len.1, pending_len.2) (omega arith) (λ m targets known g h. known_framed m f.pending_len (q ∷ []) old.stack.frames targets known g h) refl refl starts

  pub visits_capture : (q slot n : ℕ) (t : Thread) (f : Frame) (old : Scratch) (slots : List (Option ℕ)) → f.pending_len < length old.rows.pending → length (slots_at old.rows t.row) ≡ old.rows.slots_per_row →
      n ≡ (if nat_lt slot old.rows.slots_per_row then f.pending_len + 1 else f.pending_len) →
      ArePending old.rows f.pending_len (f ∷ old.stack.frames) → IsStarted longest t.start old.first_match →
      VisitsTo hay longest place (capture q slot) t f old
      (with_table (awaiting (if nat_lt slot old.rows.slots_per_row then slice_set old.rows.pending f.pending_len slot else old.rows.pending) old.rows) old) slots slots (Some (frame_at n q))
  visits_capture q slot n t f old slots room wide count pending_len starts =
      rw count (by_test (nat_lt slot old.rows.slots_per_row) refl)
    where
      by_test : (b : Bool) → nat_lt slot old.rows.slots_per_row ≡ b →
          VisitsTo hay longest place (capture q slot) t f old
          (with_table (awaiting (if b then slice_set old.rows.pending f.pending_len slot else old.rows.pending) old.rows) old) slots slots (Some (frame_at (if b then f.pending_len + 1 else f.pending_len) q))
      by_test true e = capture_pending q slot t f old slots (ltb-true slot old.rows.slots_per_row e) room pending_len starts
      by_test false e = capture_passed q slot t f old slots (ltb-false slot old.rows.slots_per_row e) wide pending_len starts

  -- the frames of a thread stay where one that did not start before it came to a match
  frames_stay : (pool : Pool) (t : Thread) (start : ℕ) (fs : List Frame) → t.start ≤ start →
      filter (λ (u : MachineThread). nat_le u.start start) (map (frame_of place pool t) fs) ≡ map (frame_of place pool t) fs
  frames_stay pool t start [] le = refl
  frames_stay pool t start (f ∷ fs) le = grind (arith, common_steps, filter, le-leb, (frames_stay pool t start fs le))

  -- what a match keeps of the frames
  kept_frames : (pool : Pool) (t : Thread) (h : MachineThread) (fs : List Frame) → (longest ≡ true → t.start ≤ h.start) →
      kept hay longest (Some h) (map (frame_of place pool t) fs) ≡ map (frame_of place pool t) (if longest then fs else [])
  kept_frames pool t h fs starts = by_test longest refl
    where
      by_test : (b : Bool) → longest ≡ b →
          (if b then filter (λ (u : MachineThread). nat_le u.start h.start) (map (frame_of place pool t) fs) else []) ≡ map (frame_of place pool t) (if b then fs else [])
      by_test false e = refl
      by_test true e = frames_stay pool t h.start fs (starts e)

  pub visits_match : (t : Thread) (f : Frame) (old new : Scratch) (slots left : List (Option ℕ)) →
      new.first_match ≡ option_or old.first_match (Some (record { state = f.state; start = t.start })) →
      left ≡ (if is_some old.first_match then slots else with_pending place (take f.pending_len old.rows.pending) (slots_at old.rows t.row)) →
      new.stack.frames ≡ (if longest then old.stack.frames else []) → new.stack.room ≡ old.stack.room → new.visited_set ≡ old.visited_set → new.rows ≡ old.rows → new.next ≡ old.next →
      length (slots_at old.rows t.row) ≡ length slots → ArePending old.rows f.pending_len (f ∷ old.stack.frames) → IsStarted longest t.start old.first_match →
      VisitsTo hay longest place match t f old new slots left None
  unfolding closure.visited
  visits_match t f old new slots left first_match kept_slots frames room visited_set rows next wide pending_len starts = grind (arith, common_steps, kept_frames, pending_more, length-with_pending)
