-- A search that is resumed between two places, and how it stops.
use Rattle.std.specs.Prelude.{◌≡◌, false, ℕ, ◌*◌, ◌+◌, ◌≤◌, Bool, true, List, [], map, take, drop, length, Option, Some, None}
use Rattle.bites_spec.specs.Walks.{Among}
use Rattle.bites_spec.specs.Program.{Program}
use Rattle.bites_spec.specs.Counts.{Record}
use Rattle.bites_spec.specs.PikeVm as machine
use Rattle.bites_machine.specs.Threads.{Listed}
use Rattle.bites_machine.specs.Scratch.{WalkState, states_in, thread_of}
use Rattle.bites_machine.specs.Explore.{Passes}
use Rattle.bites_machine.specs.Inputs.{is_longest, is_earliest}
use Rattle.bites_machine.specs.Sweep.{HasReached, SearchResult, InvariantBetweenSteps, IsProgramOf}
use Rattle.bites_machine.specs.declared.vm.Input.{Input}
use Rattle.bites_machine.specs.declared.vm.resume.Resumed.{Resumed}
use Rattle.bites_machine.specs.declared.vm.resume.Stopped.{Stopped}
use Rattle.bites_machine.specs.declared.vm.resume.RegisterThread.{RegisterThread}

-- the row of a register: so many of the slots of all registers
abbrev pub row_in : List (Option ℕ) → ℕ → ℕ → List (Option ℕ)
row_in registers width r = take width (drop (r * width) registers)

-- the thread with the row of its register, which was started at this place
abbrev pub thread_in : ℕ → List (Option ℕ) → ℕ → RegisterThread → machine.Thread
thread_in start registers width t = record { state = t.state; start = start; slots = row_in registers width t.register }

-- each thread has a whole row among the registers
abbrev pub HaveRows : List (Option ℕ) → ℕ → List RegisterThread → Type 0
HaveRows registers width threads = (t : RegisterThread) → Among threads t → t.register * width + width ≤ length registers

-- The search stopped: it was over, or at this place no thread is left while the start is walked.
abbrev pub StopsAt : Program → List ℕ → Bool → Bool → Bool → ℕ → List (Option ℕ) → Bool → Option ℕ → List (Option ℕ) → Record → Type 0
StopsAt p hay longest anchored earliest start first is_found None slots walked = SearchResult p hay longest anchored earliest start is_found first slots walked
StopsAt p hay longest anchored earliest start first is_found (Some place) slots walked = HasReached p hay longest anchored earliest start first place true is_found walked [] slots

-- the machine on lists has reached this place in a search for what the input asks, with these threads
abbrev pub ReachedBy : Program → Input → List (Option ℕ) → ℕ → Bool → Bool → Record → List machine.Thread → List (Option ℕ) → Type 0
ReachedBy p input first = HasReached p input.haystack.now (is_longest input.kind) input.anchored (is_earliest input.kind) input.start first

-- A search may go on from there with these threads, in a program that starts in the state `first`.
pub record CanRun (first : ℕ) (input : Input) (from : Resumed) (threads : Listed) (w : WalkState) : Type 0 where
  pub within : from.place ≤ length input.haystack.now
  pub program : (p : Program) × IsProgramOf p (states_in w) first
  pub between : InvariantBetweenSteps from.place threads w

-- The search went on from there with these threads, and it stopped so.
pub record Runs (first : ℕ) (input : Input) (from : Resumed) (threads : Listed) (old new : WalkState) (end : Stopped) : Type 0 where
  pub stopped : (p : Program) → IsProgramOf p (states_in old) first → (before : List (Option ℕ)) →
      ReachedBy p input before from.place from.starts from.is_found old.counted.walked (map (thread_of old.scratch.rows) threads.threads) old.slots →
      StopsAt p input.haystack.now (is_longest input.kind) input.anchored (is_earliest input.kind) input.start before end.is_found end.idle new.slots new.counted.walked
  pub whole : from.until_idle ≡ false → end.idle ≡ None
  pub passes : Passes old new
