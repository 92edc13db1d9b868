-- Thread lists, and the transitions between them, which hold for every haystack and all rows.
use Rattle.std.specs.Prelude.{◌≡◌, ℕ, Bool, true, false, List, [], ◌∷◌, ◌++◌, map, Option, None, is_some, if◌then◌else◌, slice_index_or}
use Rattle.bites_spec.specs.Program.{State, Program}
use Rattle.bites_spec.specs.Closure.{Walking, WalksTo}
use Rattle.bites_table.specs.Kinds.{Kind}
use Rattle.bites_table.specs.Sources.{Thread, thread_with, on_row, Source, unwritten, row_of_register, threads_by}

-- Where the start of the program is walked: at each place until something is found, at this place alone, or no more. The last two have
-- a form for the longest match too.
pub data Starts : Type 0 where
  everywhere here nowhere longest_here longest_nowhere : Starts

-- the start is walked at this place
abbrev pub is_walked : Starts → Bool
is_walked nowhere = false
is_walked longest_nowhere = false
is_walked _ = true

-- a match cuts off the threads after it, but where the longest one is searched for
abbrev pub cuts_off : Starts → Bool
cuts_off longest_here = false
cuts_off longest_nowhere = false
cuts_off _ = true

-- where it is walked after this place, by whether something is found here
abbrev pub starts_after : Bool → Starts → Starts
starts_after false everywhere = everywhere
starts_after true everywhere = nowhere
starts_after _ here = nowhere
starts_after _ nowhere = nowhere
starts_after _ longest_here = longest_nowhere
starts_after _ longest_nowhere = longest_nowhere

-- A thread list: the threads in order of preference, each with its register; where the start is walked after them; and the kind of
-- the byte before.
pub record ThreadList : Type 0 where
  pub threads : List (Thread ℕ)
  pub starts : Starts
  pub kind : Kind

-- A transition: what comes next, for each register of it the source of its row, and the thread that comes to a match.
-- For proofs: the states that the walk visits, the last one first, and the number of its looks.
pub record Transition (N : Type 0) : Type 0 where
  pub next : N
  pub moves : List Source
  pub hit : Option (Thread Source)
  pub seen : List ℕ
  pub looks : ℕ

-- the source of a register
abbrev pub source_at : List Source → ℕ → Source
source_at moves r = slice_index_or moves r unwritten

-- the walk of a thread list begins with its threads, and the start after them if it is walked
abbrev pub begun : Program → ThreadList → Walking (Thread Source)
begun p l = record {
  stack = map (on_row row_of_register) l.threads ++ (if is_walked l.starts then thread_with unwritten p.start ∷ [] else []);
  seen = [];
  next = [];
  first_match = None;
  looks = 0;
}

-- where states lead so, the walk of the thread list leaves what the transition says
pub record IsTransition (p : Program) (leads : State → List ℕ) (l : ThreadList) (t : Transition ThreadList) : Type 0 where
  pub last : Walking (Thread Source)
  pub walks : WalksTo (threads_by (cuts_off l.starts) leads) p (begun p l) last
  pub over : last.stack ≡ []
  pub next : last.next ≡ map (on_row (source_at t.moves)) t.next.threads
  pub hit : last.first_match ≡ t.hit
  pub starts : t.next.starts ≡ starts_after (is_some t.hit) l.starts
  pub seen : last.seen ≡ t.seen
  pub looks : last.looks ≡ t.looks
