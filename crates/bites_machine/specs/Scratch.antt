-- What the code of the machine works with, as the machine on lists has it.
use Rattle.std.specs.Prelude.{◌≡◌, ℕ, ◌+◌, ◌<◌, Bool, List, [], ◌∷◌, ◌++◌, map, take, length, Option, option_map}
use Rattle.bites_spec.specs.Program as program
use Rattle.bites_spec.specs.Program.{Configuration}
use Rattle.bites_machine.specs.Trace.{IsVisited, IsStep}
use Rattle.bites_spec.specs.PikeVm as machine
use Rattle.bites_machine.specs.States.{states_of}
use Rattle.bites_machine.specs.SlotTable.{Pool, slots_at, with_pending, one_less, with_counts, CanCopy}
use Rattle.bites_machine.specs.Threads.{Listed}
use Rattle.bites_machine.specs.Used.{IsUsed, KeepsTable}
use Rattle.bites_machine.specs.declared.vm.threads.Thread.{Thread}
use Rattle.bites_machine.specs.declared.vm.stack.Frame.{Frame}
use Rattle.bites_machine.specs.declared.vm.closure.FirstMatch.{FirstMatch}
use Rattle.bites_machine.specs.declared.vm.closure.Scratch.{Scratch}
use Rattle.bites_machine.specs.declared.vm.counted.Counted.{Counted}
use Rattle.bites_machine.specs.declared.vm.position.Position.{Position}

-- What the closures of a place work with: the states with the record of the search, the working memory, and the slots of the match.
pub record WalkState : Type 0 where
  pub counted : Counted
  pub scratch : Scratch
  pub slots : List (Option ℕ)

abbrev pub walk_state : Counted → Scratch → List (Option ℕ) → WalkState
walk_state counted scratch slots = record { counted = counted; scratch = scratch; slots = slots }

-- the states of the program
abbrev pub states_in : WalkState → List program.State
states_in w = states_of w.counted.states.now

-- a configuration was read, and so visited; the states are unchanged
pub record CountsVisit (v : Configuration) (old new : Counted) : Type 0 where
  pub walked : IsVisited v old.walked new.walked
  pub states : new.states ≡ old.states

-- one step more was counted; the states are unchanged
pub record CountsStep (old new : Counted) : Type 0 where
  pub walked : IsStep old.walked new.walked
  pub states : new.states ≡ old.states

-- this is that place of the haystack, and whether the longest match is asked for
pub record IsPosition (hay : List ℕ) (i : ℕ) (is_longest : Bool) (here : Position) : Type 0 where
  pub haystack : here.haystack.now ≡ hay
  pub place : here.place ≡ i
  pub longest : here.longest ≡ is_longest

-- a thread with its row
abbrev pub thread_of : Pool → Thread → machine.Thread
thread_of pool t = record { state = t.state; start = t.start; slots = slots_at pool t.row }

-- the threads that took the piece
abbrev pub next_of : Scratch → List machine.Thread
next_of scratch = map (thread_of scratch.rows) scratch.next.threads

-- a thread that was explored as far as a frame
abbrev pub frame_of : ℕ → Pool → Thread → Frame → machine.Thread
frame_of place pool t f = record { state = f.state; start = t.start; slots = with_pending place (take f.pending_len pool.pending) (slots_at pool t.row) }

-- the thread that came to a match, with what it left in the slice
abbrev pub first_match_of : Option FirstMatch → List (Option ℕ) → Option machine.Thread
first_match_of first_match slots = option_map (λ h. record { state = h.state; start = h.start; slots = slots }) first_match

-- The walk of one thread: the frames that are explored, the current one first.
abbrev pub walking_of : ℕ → Thread → Scratch → List (Option ℕ) → List Frame → List ℕ → ℕ → machine.Walking
walking_of place t scratch slots frames seen looks = record {
  stack = map (frame_of place scratch.rows t) frames;
  seen = seen;
  next = next_of scratch;
  first_match = first_match_of scratch.first_match slots;
  looks = looks;
}

-- the row of a thread
abbrev pub row_of : Thread → ℕ
row_of t = t.row

-- the rows that are used while a thread is explored: its own, those of the threads that took the piece, and others
abbrev pub users_of : Scratch → Thread → List ℕ → List ℕ
users_of scratch t others = t.row ∷ (map row_of scratch.next.threads ++ others)

-- the thread is a user of its row
abbrev pub HoldsRow : Scratch → Thread → Type 0
HoldsRow scratch t = (others : List ℕ) × IsUsed scratch.rows (users_of scratch t others)

-- the scratch with another table of slots
abbrev pub with_table : Pool → Scratch → Scratch
with_table pool scratch = record { visited_set = scratch.visited_set; stack = scratch.stack; rows = pool; next = scratch.next; first_match = scratch.first_match }

-- the scratch with other next threads
abbrev pub with_next : Listed → Scratch → Scratch
with_next next scratch = record { visited_set = scratch.visited_set; stack = scratch.stack; rows = scratch.rows; next = next; first_match = scratch.first_match }

-- the thread gives up its row
abbrev pub releases : Thread → Scratch → Scratch
releases t scratch = with_table (with_counts (one_less scratch.rows.ref_counts t.row) scratch.rows) scratch

-- a thread may be added that took the piece at this place, with the first n pending slots
pub record CanAdd (place n : ℕ) (t : Thread) (scratch : Scratch) : Type 0 where
  pub room : length scratch.next.threads < scratch.next.room
  pub used : HoldsRow scratch t
  pub copied : CanCopy place t.row n scratch.rows

-- nothing but rows and the threads that took the piece has changed
pub record OnlyForks (old new : Scratch) : Type 0 where
  pub visited_set : new.visited_set ≡ old.visited_set
  pub stack : new.stack ≡ old.stack
  pub first_match : new.first_match ≡ old.first_match
  pub room : new.next.room ≡ old.next.room
  pub pending : new.rows.pending ≡ old.rows.pending
  pub table : KeepsTable old.rows new.rows

-- the thread, explored as far as the frame, took the piece and continues from the target
pub record AddsThread (place target pending_len : ℕ) (t : Thread) (old new : Scratch) : Type 0 where
  pub only : OnlyForks old new
  pub users : (others : List ℕ) → IsUsed old.rows (users_of old t others) → IsUsed new.rows (users_of new t others)
  pub next : (others : List ℕ) → IsUsed old.rows (users_of old t others) →
      next_of new ≡ next_of old ++ record { state = target; start = t.start; slots = with_pending place (take pending_len old.rows.pending) (slots_at old.rows t.row) } ∷ []
  pub len : length new.next.threads ≡ length old.next.threads + 1
