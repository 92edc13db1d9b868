-- What the closure of a thread leaves, and a search that goes from place to place.
use Rattle.std.specs.Prelude.{◌≡◌, ℕ, ◌+◌, ◌*◌, ◌<◌, ◌≤◌, Bool, not, ◌||◌, ◌&&◌, if◌then◌else◌, List, [], ◌∷◌, ◌++◌, map, length, replicate, Option, None, Some, is_some, sum_by, IfSome}
use Rattle.bites_spec.specs.Walks.{Among}
use Rattle.bites_spec.specs.Program as program
use Rattle.bites_spec.specs.Program.{Configuration, Program, targets_of, IsWellFormed}
use Rattle.bites_spec.specs.Counts.{Record, Fit}
use Rattle.bites_spec.specs.PikeVm as machine
use Rattle.bites_spec.specs.PikeVm.{WalksTo, Searching, Searches, SearchedTo, Searched}
use Rattle.bites_machine.specs.Threads.{Listed}
use Rattle.bites_machine.specs.Used.{IsUsed, KeepsOf}
use Rattle.bites_machine.specs.Scratch.{WalkState, states_in, thread_of, next_of, first_match_of, row_of, users_of, HoldsRow}
use Rattle.bites_machine.specs.Explore.{IsAtPlace, Keeps, Passes, kept_by, seen_here}
use Rattle.bites_machine.specs.declared.vm.threads.Thread.{Thread}
use Rattle.bites_machine.specs.declared.vm.position.Position.{Position}
use Rattle.bites_machine.specs.declared.vm.closure.Scratch.{Scratch}

-- what a slice is left with
abbrev pub left_in : Option machine.Thread → List (Option ℕ) → List (Option ℕ)
left_in None old = old
left_in (Some b) old = b.slots

-- the closures of a place with these threads on the stack
abbrev pub walking_at : Position → WalkState → List machine.Thread → machine.Walking
walking_at here w stack = record {
  stack = stack;
  seen = seen_here here.place w.counted.walked.visits;
  next = next_of w.scratch;
  first_match = first_match_of w.scratch.first_match w.slots;
  looks = w.counted.walked.looks;
}

-- the machine on lists walks on at the place
abbrev pub WalksHere : Position → Program → machine.Walking → machine.Walking → Type 0
WalksHere here p old new = WalksTo here.haystack.now here.longest p here.place old new

-- the number of frames of the stack, and of rows of the slot table, for programs of this size
abbrev pub frames_for : Fit → ℕ
frames_for fit = fit.targets + 1

abbrev pub rows_for : Fit → ℕ
rows_for fit = 2 * fit.states + fit.targets + 2

-- the size of these states, without slots
abbrev pub fit_in : List program.State → Fit
fit_in states = record { states = length states; slots = 0; targets = sum_by (λ s. length (targets_of s)) states }

-- What holds between the closures of two threads at a place.
pub record InvariantWithinStep (here : Position) (w : WalkState) : Type 0 where
  pub place : IsAtPlace here w
  pub stack : w.scratch.stack.room ≡ frames_for (fit_in (states_in w))
  pub empty : w.scratch.stack.frames ≡ []
  pub rows : length w.scratch.rows.ref_counts ≡ rows_for (fit_in (states_in w))

-- the closure of a thread may be explored
pub record CanClose (here : Position) (t : Thread) (w : WalkState) : Type 0 where
  pub within_step : InvariantWithinStep here w
  pub known : t.state < length (states_in w)
  pub used : HoldsRow w.scratch t

-- the closures of these threads may be explored
pub record CanCloseAll (here : Position) (threads : List Thread) (w : WalkState) : Type 0 where
  pub within_step : InvariantWithinStep here w
  pub known : (t : Thread) → Among threads t → t.state < length (states_in w)
  pub used : IsUsed w.scratch.rows (map row_of w.scratch.next.threads ++ map row_of threads)

-- so may those of these threads, and after them that of the start, if one is given
pub record CanCloseWith (here : Position) (begins : Option ℕ) (threads : List Thread) (w : WalkState) : Type 0 where
  pub close : CanCloseAll here threads w
  pub first : IfSome begins (λ q. q < length (states_in w))

-- The closure of a thread was explored, or a match cut it off; other threads wait below it. Its row was released.
pub record ClosesThread (here : Position) (t : Thread) (old new : WalkState) : Type 0 where
  pub within_step : InvariantWithinStep here new
  pub keeps : Keeps here old new
  pub users : (others : List ℕ) → IsUsed old.scratch.rows (users_of old.scratch t others) → IsUsed new.scratch.rows (map row_of new.scratch.next.threads ++ others)
  pub kept : (others : List ℕ) → IsUsed old.scratch.rows (users_of old.scratch t others) → KeepsOf others old.scratch.rows new.scratch.rows
  pub walks : (p : Program) → p.states ≡ states_in old → (others : List ℕ) → IsUsed old.scratch.rows (users_of old.scratch t others) → (below : List machine.Thread) →
      WalksHere here p (walking_at here old (kept_by here old (thread_of old.scratch.rows t ∷ below))) (walking_at here new (kept_by here new below))

-- The closures of some threads of a place were explored, or cut off; these are left.
pub record ClosesThreads (here : Position) (threads rest : List Thread) (old new : WalkState) : Type 0 where
  pub within_step : InvariantWithinStep here new
  pub keeps : Keeps here old new
  pub users : IsUsed new.scratch.rows (map row_of new.scratch.next.threads ++ map row_of rest)
  pub walks : (p : Program) → p.states ≡ states_in old → (tail : List machine.Thread) →
      WalksHere here p (walking_at here old (kept_by here old (map (thread_of old.scratch.rows) threads ++ tail)))
      (walking_at here new (kept_by here new (map (thread_of new.scratch.rows) rest ++ tail)))

-- the start as a thread, if it is one
abbrev pub start_threads : Bool → ℕ → ℕ → Option ℕ → List machine.Thread
start_threads longest place slots_per_row None = []
start_threads longest place slots_per_row (Some q) = record { state = q; start = if longest then place else 0; slots = replicate slots_per_row None } ∷ []

-- The closures of all threads of a place were explored, or cut off, and after them that of the start, if one is given.
pub record ClosesAll (here : Position) (begins : Option ℕ) (threads : List Thread) (old new : WalkState) : Type 0 where
  pub within_step : InvariantWithinStep here new
  pub keeps : Keeps here old new
  pub users : IsUsed new.scratch.rows (map row_of new.scratch.next.threads ++ [])
  pub walks : (p : Program) → p.states ≡ states_in old →
      WalksHere here p (walking_at here old (kept_by here old (map (thread_of old.scratch.rows) threads ++ start_threads here.longest here.place (length old.slots) begins))) (walking_at here new [])

-- The room that programs of this size need: the exact numbers of frames and rows.
pub record HasRoom (fit : Fit) (scratch : Scratch) (list : Listed) : Type 0 where
  pub visited_set : length scratch.visited_set ≡ fit.states
  pub pending_len : length scratch.rows.pending ≡ fit.states
  pub stack : scratch.stack.room ≡ frames_for fit
  pub empty : scratch.stack.frames ≡ []
  pub next : scratch.next.room ≡ fit.states
  pub threads : list.room ≡ fit.states
  pub rows : length scratch.rows.ref_counts ≡ rows_for fit
  pub max_slots : fit.slots ≤ scratch.rows.max_slots

-- What holds between two places: neither this one nor a later one was searched yet.
pub record InvariantBetweenSteps (place : ℕ) (list : Listed) (w : WalkState) : Type 0 where
  pub visits : (v : Configuration) → Among w.counted.walked.visits v → v.place < place
  pub room : HasRoom (fit_in (states_in w)) w.scratch list
  pub few : length list.threads ≤ length (states_in w)
  pub known : (t : Thread) → Among list.threads t → t.state < length (states_in w)
  pub used : IsUsed w.scratch.rows (map row_of list.threads)
  pub wide : length w.slots ≡ w.scratch.rows.slots_per_row

-- A search of the machine on lists is at this place, with these threads, this result and this record; the start is walked here or not.
pub record Represents (s : Searching) (i : ℕ) (list : List machine.Thread) (walked : Record) (first left : List (Option ℕ)) (on is_found : Bool) : Type 0 where
  pub place : s.place ≡ i
  pub threads : s.threads ≡ list
  pub starts : s.starts ≡ on
  pub found : is_some s.best ≡ is_found
  pub slots : left_in s.best first ≡ left
  pub visits : s.visits ≡ walked.visits
  pub looks : s.looks ≡ walked.looks

-- whether the start is walked at the next place too, by the first match of this one
abbrev pub starts_on : Bool → Bool → Scratch → Bool
starts_on anchored starts new = starts && not (anchored || is_some new.first_match)

-- A place was searched, with the start after the threads if it is walked there. Then these threads are at the next place.
pub record PlaceSearched (here : Position) (begins : Option ℕ) (threads later : Listed) (old new : WalkState) : Type 0 where
  pub searches : (p : Program) → p.states ≡ states_in old → (anchored : Bool) (s : Searching) (first : List (Option ℕ)) (starts found : Bool) →
      begins ≡ (if starts then Some p.start else None) → Represents s here.place (map (thread_of old.scratch.rows) threads.threads) old.counted.walked first old.slots starts found →
      (t : Searching) × Searches here.haystack.now here.longest p (length old.slots) anchored s t
      × Represents t (here.place + here.ch_len) (map (thread_of new.scratch.rows) later.threads) new.counted.walked first new.slots (starts_on anchored starts new.scratch) (found || is_some new.scratch.first_match)
  pub between : InvariantBetweenSteps (here.place + 1) later new
  pub passes : Passes old new

-- The slice had these slots when the search began.
module _ (p : Program) (hay : List ℕ) (longest anchored earliest : Bool) (start : ℕ) (old : List (Option ℕ)) where
  -- the machine on lists has reached this place, with these threads; the slice has these slots now
  pub record HasReached (place : ℕ) (starts is_found : Bool) (walked : Record) (threads : List machine.Thread) (slots : List (Option ℕ)) : Type 0 where
    pub places : ℕ
    pub now : Searching
    pub searched : SearchedTo hay longest p (length old) anchored earliest start places now
    pub stands : Represents now place threads walked old slots starts is_found
    pub len : length slots ≡ length old

-- there is a program with these states, and with that start if one is given
abbrev pub IsOfProgram : List program.State → Option ℕ → Type 0
IsOfProgram states begins = (p : Program) × (p.states ≡ states) × IsWellFormed p × IfSome begins (λ q. q ≡ p.start)

-- the program has these states and starts at that one
pub record IsProgramOf (p : Program) (all : List program.State) (first : ℕ) : Type 0 where
  pub states : p.states ≡ all
  pub start : p.start ≡ first
  pub well : IsWellFormed p

-- The machine on lists searched from the start on, or from the start alone, with this result and record; the slice had the old slots.
pub record SearchResult (p : Program) (hay : List ℕ) (longest anchored earliest : Bool) (start : ℕ) (answer : Bool) (old new : List (Option ℕ)) (walked : Record) : Type 0 where
  pub last : Searching
  pub searched : Searched hay longest p (length old) anchored earliest start last
  pub found : is_some last.best ≡ answer
  pub slots : left_in last.best old ≡ new
  pub visits : last.visits ≡ walked.visits
  pub looks : last.looks ≡ walked.looks
