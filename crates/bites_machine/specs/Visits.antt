-- What a visit of a state requires, and what it leaves.
use Rattle.std.specs.Prelude.{◌≡◌, ℕ, suc, ◌+◌, ◌<◌, ◌≤◌, Bool, true, false, not, ◌||◌, nat_lt, List, [], ◌∷◌, ◌++◌, map, length, Option, Some, None, IfSome, option_to_list, slice_index, sum}
use Rattle.bites_spec.specs.Look.{Look, holds}
use Rattle.bites_spec.specs.Walks.{Among, IsNew}
use Rattle.bites_spec.specs.Program as program
use Rattle.bites_spec.specs.Program.{at, state_at, targets_of, HasRanges}
use Rattle.bites_spec.specs.PikeVm.{visited}
use Rattle.bites_machine.specs.SlotTable.{Pool}
use Rattle.bites_machine.specs.Used.{IsUsed, KeepsTable}
use Rattle.bites_machine.specs.Scratch.{WalkState, states_in, HoldsRow, frame_of, walking_of, users_of}
use Rattle.bites_machine.specs.declared.vm.position.Position.{Position}
use Rattle.bites_machine.specs.declared.vm.threads.Thread.{Thread}
use Rattle.bites_machine.specs.declared.vm.stack.Frame.{Frame}
use Rattle.bites_machine.specs.declared.vm.closure.FirstMatch.{FirstMatch}
use Rattle.bites_machine.specs.declared.vm.closure.Scratch.{Scratch}

-- whether an assertion holds at a place, or there is none
abbrev pub lets_on : Option Look → List ℕ → ℕ → Bool
lets_on None hay i = true
lets_on (Some look) hay i = holds look hay i

-- Each frame has at most as many pending slots as the one before it, and rows have these slots.
abbrev pub ArePending : Pool → ℕ → List Frame → Type 0
ArePending pool max_slots [] = Unit {0}
ArePending pool max_slots (f ∷ fs) = (f.pending_len ≤ max_slots) × ((k : ℕ) → k < f.pending_len → slice_index pool.pending k < pool.slots_per_row) × ArePending pool f.pending_len fs

-- for the longest run a thread did not start later than the one that reached a match
abbrev pub IsStarted : Bool → ℕ → Option FirstMatch → Type 0
IsStarted longest start first_match = longest ≡ true → IfSome first_match (λ h. start ≤ h.start)

-- whether a match cuts off a thread with this start
abbrev pub cuts : Bool → ℕ → Option FirstMatch → Bool
cuts longest start None = false
cuts longest start (Some h) = not longest || nat_lt h.start start

-- A state may be visited that was not visited at this place, with the thread, which was explored as far as the frame.
pub record CanFollow (here : Position) (t : Thread) (f : Frame) (w : WalkState) : Type 0 where
  pub known : f.state < length w.counted.states.now
  pub fresh : IsNew (at f.state here.place) w.counted.walked.visits
  pub ranges : HasRanges (state_at (states_in w) f.state)
  pub stack : length w.scratch.stack.frames + length (targets_of (state_at (states_in w) f.state)) ≤ w.scratch.stack.room
  pub next : length w.scratch.next.threads < w.scratch.next.room
  pub used : HoldsRow w.scratch t
  pub pending_len : f.pending_len < length w.scratch.rows.pending
  pub pending : ArePending w.scratch.rows f.pending_len (f ∷ w.scratch.stack.frames)
  pub rows : sum w.scratch.rows.ref_counts + 1 < length w.scratch.rows.ref_counts
  pub slots_per_row : length w.slots ≡ w.scratch.rows.slots_per_row
  pub starts : IsStarted here.longest t.start w.scratch.first_match

-- What following a state leaves, and the frame that is explored next.
pub record VisitsTo (hay : List ℕ) (longest : Bool) (place : ℕ) (st : program.State) (t : Thread) (f : Frame) (old new : Scratch) (slots left : List (Option ℕ)) (on : Option Frame) : Type 0 where
  pub moves : (others seen : List ℕ) (looks : ℕ) → IsUsed old.rows (users_of old t others) →
      visited hay longest place st (frame_of place old.rows t f) (map (frame_of place old.rows t) old.stack.frames)
      (walking_of place t old slots (f ∷ old.stack.frames) seen looks)
      ≡ walking_of place t new left (option_to_list on ++ new.stack.frames) (f.state ∷ seen) (suc looks)
  pub users : (others : List ℕ) → IsUsed old.rows (users_of old t others) → IsUsed new.rows (users_of new t others)
  pub pending : ArePending new.rows (f.pending_len + 1) (option_to_list on ++ new.stack.frames)
  pub known : (n : ℕ) → ((q : ℕ) → Among (targets_of st) q → q < n) → ((g : Frame) → Among old.stack.frames g → g.state < n) →
      (g : Frame) → Among (option_to_list on ++ new.stack.frames) g → g.state < n
  pub visited_set : new.visited_set ≡ old.visited_set
  pub len : length left ≡ length slots
  pub frames : length (option_to_list on ++ new.stack.frames) ≤ length old.stack.frames + length (targets_of st)
  pub next : length new.next.threads ≤ length old.next.threads + 1
  pub pending_len : length new.rows.pending ≡ length old.rows.pending
  pub room : new.stack.room ≡ old.stack.room
  pub more : new.next.room ≡ old.next.room
  pub starts : IsStarted longest t.start new.first_match
  pub table : KeepsTable old.rows new.rows
  pub none : new.first_match ≡ None → (old.first_match ≡ None) × (left ≡ slots)
