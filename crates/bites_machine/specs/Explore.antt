-- What a closure keeps from step to step.
use Rattle.std.specs.Prelude.{◌≡◌, ℕ, ◌+◌, ◌*◌, ◌<◌, ◌≤◌, Bool, false, List, [], ◌∷◌, ◌++◌, length, Option, None, option_to_list, if◌then◌else◌, ◌==◌, slice_index_or, count_by, sum}
use Rattle.std.specs.List.{list_any}
use Rattle.bites_spec.specs.Walks.{Among}
use Rattle.bites_spec.specs.Program as program
use Rattle.bites_spec.specs.Program.{Configuration, targets_of, state_at, HasRanges}
use Rattle.bites_spec.specs.Counts.{Record}
use Rattle.bites_spec.specs.PikeVm as machine
use Rattle.bites_spec.specs.PikeVm.{step}
use Rattle.bites_machine.specs.Used.{IsUsed, KeepsOf}
use Rattle.bites_machine.specs.Scratch.{WalkState, states_in, first_match_of, walking_of, users_of}
use Rattle.bites_machine.specs.Visits.{ArePending, IsStarted}
use Rattle.bites_machine.specs.declared.vm.threads.Thread.{Thread}
use Rattle.bites_machine.specs.declared.vm.stack.Frame.{Frame}
use Rattle.bites_machine.specs.declared.vm.position.Position.{Position}

-- the states that were visited last, at this place
abbrev pub seen_here : ℕ → List Configuration → List ℕ
seen_here place [] = []
seen_here place (v ∷ vs) = if v.place == place then v.state ∷ seen_here place vs else []

-- the configurations that were visited before that
abbrev pub visited_before : ℕ → List Configuration → List Configuration
visited_before place [] = []
visited_before place (v ∷ vs) = if v.place == place then visited_before place vs else v ∷ vs

-- the number of edges of the states that are no members
abbrev pub edges_left : List program.State → List Bool → ℕ
edges_left [] visited_set = 0
edges_left (s ∷ states) [] = length (targets_of s) + edges_left states []
edges_left (s ∷ states) (m ∷ visited_set) = (if m then 0 else length (targets_of s)) + edges_left states visited_set

-- each state has ranges in order, and leads to states that are there
abbrev pub AreSound : List program.State → Type 0
AreSound states = (q : ℕ) → q < length states → HasRanges (state_at states q) × ((r : ℕ) → Among (targets_of (state_at states q)) r → r < length states)

-- how many states are members
abbrev pub member_count : List Bool → ℕ
member_count visited_set = count_by (λ m. m) visited_set

-- What holds while a place is searched: what was visited there, and that there is room for whatever was not.
pub record IsAtPlace (here : Position) (w : WalkState) : Type 0 where
  pub sound : AreSound (states_in w)
  pub visited_set : length w.scratch.visited_set ≡ length (states_in w)
  pub seen : (q : ℕ) → q < length (states_in w) → slice_index_or w.scratch.visited_set q false ≡ list_any (λ x. x == q) (seen_here here.place w.counted.walked.visits)
  pub before : (v : Configuration) → Among (visited_before here.place w.counted.walked.visits) v → v.place < here.place
  pub pending_len : length w.scratch.rows.pending ≡ length (states_in w)
  pub next : length w.scratch.next.threads ≤ member_count w.scratch.visited_set
  pub more : w.scratch.next.room ≡ length (states_in w)
  pub sum : sum w.scratch.rows.ref_counts ≤ length (states_in w) + member_count w.scratch.visited_set
  pub wide : length w.slots ≡ w.scratch.rows.slots_per_row

-- The first of the frames may be explored, and there is room for whatever it leads to.
pub record IsReady (here : Position) (t : Thread) (frames : List Frame) (w : WalkState) : Type 0 where
  pub place : IsAtPlace here w
  pub known : (f : Frame) → Among frames f → f.state < length (states_in w)
  pub pending : ArePending w.scratch.rows (member_count w.scratch.visited_set) frames
  pub stack : length frames + edges_left (states_in w) w.scratch.visited_set ≤ w.scratch.stack.room
  pub rows : 2 * length (states_in w) + 1 < length w.scratch.rows.ref_counts
  pub starts : IsStarted here.longest t.start w.scratch.first_match

-- if all that was visited had been read, it is so still
abbrev pub ReadsAll : Record → Record → Type 0
ReadsAll was now = was.read ≡ was.visits → now.read ≡ now.visits

-- What a search keeps: the states, that all visits were read, how many slots rows may have, and how many the slice has.
pub record Passes (old new : WalkState) : Type 0 where
  pub states : new.counted.states ≡ old.counted.states
  pub read : ReadsAll old.counted.walked new.counted.walked
  pub max_slots : new.scratch.rows.max_slots ≡ old.scratch.rows.max_slots
  pub len : length new.slots ≡ length old.slots

-- What the closures of a place keep.
pub record Keeps (here : Position) (old new : WalkState) : Type 0 where
  pub passes : Passes old new
  pub before : visited_before here.place new.counted.walked.visits ≡ visited_before here.place old.counted.walked.visits
  pub none : new.scratch.first_match ≡ None → (old.scratch.first_match ≡ None) × (new.slots ≡ old.slots)

-- the walk of a thread that is explored: these frames are left
abbrev pub exploring : Position → Thread → WalkState → List Frame → machine.Walking
exploring here t w frames = walking_of here.place t w.scratch w.slots frames (seen_here here.place w.counted.walked.visits) w.counted.walked.looks

-- what the first match of the place keeps of these threads
abbrev pub kept_by : Position → WalkState → List machine.Thread → List machine.Thread
kept_by here w threads = machine.kept here.haystack.now here.longest (first_match_of w.scratch.first_match w.slots) threads

-- A frame was explored, and this is left: a step of the machine on lists.
pub record Explores (here : Position) (t : Thread) (f : Frame) (old new : WalkState) (on : Option Frame) : Type 0 where
  pub ready : IsReady here t (option_to_list on ++ new.scratch.stack.frames) new
  pub keeps : Keeps here old new
  pub users : (others : List ℕ) → IsUsed old.scratch.rows (users_of old.scratch t others) → IsUsed new.scratch.rows (users_of new.scratch t others)
  pub kept : (others : List ℕ) → IsUsed old.scratch.rows (users_of old.scratch t others) → KeepsOf others old.scratch.rows new.scratch.rows
  pub room : new.scratch.stack.room ≡ old.scratch.stack.room
  pub rows : length new.scratch.rows.ref_counts ≡ length old.scratch.rows.ref_counts
  pub gone : on ≡ None → new.scratch.stack.frames ≡ []
  pub less : length (option_to_list on ++ new.scratch.stack.frames) + edges_left (states_in new) new.scratch.visited_set
      < length (f ∷ old.scratch.stack.frames) + edges_left (states_in old) old.scratch.visited_set
  pub steps : (p : program.Program) → p.states ≡ states_in old → (others : List ℕ) → IsUsed old.scratch.rows (users_of old.scratch t others) →
      step here.haystack.now here.longest p here.place (exploring here t old (f ∷ old.scratch.stack.frames))
      ≡ exploring here t new (option_to_list on ++ new.scratch.stack.frames)
