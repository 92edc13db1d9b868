-- Thread lists and the transitions between them, by their numbers.
use Rattle.std.specs.Prelude.{◌≡◌, ℕ, ◌+◌, ◌*◌, ◌<◌, ◌⊎◌, List, [], ◌∷◌, ◌++◌, map, length, Option, Some, None, option_map, if◌then◌else◌, nat_lt, slice_get, slice_index}
use Rattle.std.specs.Option.{option_flatten}
use Rattle.bites_spec.specs.Walks.{Among}
use Rattle.bites_spec.specs.Program.{Program}
use Rattle.bites_table.specs.Kinds as kinds
use Rattle.bites_table.specs.Kinds.{AreAlikeKinds, Classes}
use Rattle.bites_table.specs.Transition as transitions
use Rattle.bites_table.specs.Transition.{Transition}
use Rattle.bites_table.specs.Table.{Table, IsTable, list_at}
use Rattle.bites_table.specs.Built.{kind_as, starts_as, source_of, frame_of, thread_as}
use Rattle.bites_table.specs.declared.kind.Kind.{Kind}
use Rattle.bites_table.specs.declared.thread_list.Thread.{Thread}
use Rattle.bites_table.specs.declared.thread_list.Starts.{Starts}
use Rattle.bites_table.specs.declared.thread_list.Source.{Source}
use Rattle.bites_table.specs.declared.thread_list.Frame.{Frame}

-- a thread list, and the number of its registers
pub record NumberedList : Type 0 where
  pub threads : List Thread
  pub registers : ℕ
  pub starts : Starts
  pub kind : Kind

-- what a transition leads to: the number of the next list, the source of each of its registers, and the thread that comes to a match
pub record Outcome : Type 0 where
  pub next : ℕ
  pub moves : List Source
  pub hit : Option Frame

-- a transition: the number of its outcome, and what its walk visits and looks at
pub record Cell : Type 0 where
  pub outcome : ℕ
  pub seen : List ℕ
  pub looks : ℕ

-- thread lists; the transitions over all classes, list after list, as far as they are known; and their outcomes, which they share
pub record Graph : Type 0 where
  pub classes : ℕ
  pub lists : List NumberedList
  pub cells : List (Option Cell)
  pub outcomes : List Outcome

abbrev pub list_as : NumberedList → transitions.ThreadList
list_as l = record { threads = map thread_as l.threads; starts = starts_as l.starts; kind = kind_as l.kind }

abbrev pub transition_with : Cell → Outcome → Transition ℕ
transition_with x o = record { next = o.next; moves = map source_of o.moves; hit = option_map frame_of o.hit; seen = x.seen; looks = x.looks }

abbrev pub transition_in : List Outcome → Option Cell → Option (Transition ℕ)
transition_in os None = None
transition_in os (Some x) = option_map (transition_with x) (slice_get os x.outcome)

-- the transition of a list over a class, if it is known
abbrev pub cell_at : Graph → ℕ → ℕ → Option Cell
cell_at g n c = if nat_lt c g.classes then option_flatten (slice_get g.cells (n * g.classes + c)) else None

-- the table that a graph stores
abbrev pub table_of : Graph → Table
table_of g = record { lists = map list_as g.lists; transition = λ n c. transition_in g.outcomes (cell_at g n c) }

-- the number of registers of a list
abbrev pub registers_at : Graph → ℕ → ℕ
registers_at g n = slice_index (map (λ l. l.registers) g.lists) n

-- the threads of the list have registers below its number of registers
abbrev pub AreHeld : ℕ → List Thread → Type 0
AreHeld registers ts = (t : Thread) → Among ts t → t.register < registers

-- the graph with one more list, with one more outcome, with other cells
abbrev pub with_list : Graph → NumberedList → Graph
with_list g l = record { classes = g.classes; lists = g.lists ++ l ∷ []; cells = g.cells; outcomes = g.outcomes }

abbrev pub with_outcome : Graph → Outcome → Graph
with_outcome g o = record { classes = g.classes; lists = g.lists; cells = g.cells; outcomes = g.outcomes ++ o ∷ [] }

abbrev pub with_cells : Graph → List (Option Cell) → Graph
with_cells g cells = record { classes = g.classes; lists = g.lists; cells = cells; outcomes = g.outcomes }

-- the number of a list, which is added if it is new
abbrev pub AddsList : Graph → NumberedList → ℕ → Graph → Type 0
AddsList g l n h = ((slice_get g.lists n ≡ Some l) × (h ≡ g)) ⊎ ((n ≡ length g.lists) × (h ≡ with_list g l))

-- the number of an outcome, which is added unless it is there
abbrev pub AddsOutcome : Graph → Outcome → ℕ → Graph → Type 0
AddsOutcome g o n h = ((slice_get g.outcomes n ≡ Some o) × (h ≡ g)) ⊎ ((n ≡ length g.outcomes) × (h ≡ with_outcome g o))

-- the graph stores a table; what its numbers name is there; the threads of a list have registers below its number of registers, and
-- each transition to it moves as many
pub record IsGraph (p : Program) (k : Classes) (g : Graph) : Type 0 where
  pub table : IsTable p k (table_of g)
  pub cells : (n c : ℕ) (x : Cell) → cell_at g n c ≡ Some x → (n < length g.lists) × (x.outcome < length g.outcomes)
  pub next : (i : ℕ) (o : Outcome) → slice_get g.outcomes i ≡ Some o → o.next < length g.lists
  pub moves : (i : ℕ) (o : Outcome) → slice_get g.outcomes i ≡ Some o → length o.moves ≡ registers_at g o.next
  pub held : (n : ℕ) (l : NumberedList) → slice_get g.lists n ≡ Some l → AreHeld l.registers l.threads

-- the number of the list without threads that walks the start so, and that is one for this kind of the byte before
pub record IsRoot (p : Program) (g : Graph) (kind : kinds.Kind) (starts : transitions.Starts) (n : ℕ) : Type 0 where
  pub within : n < length g.lists
  pub empty : (list_at (table_of g) n).threads ≡ []
  pub walked : (list_at (table_of g) n).starts ≡ starts
  pub alike : AreAlikeKinds p (list_at (table_of g) n).kind kind
