-- What stays true while a graph of thread lists is made.
use Rattle.std.specs.Prelude.{◌≡◌, ℕ, true, ◌+◌, ◌*◌, ◌/◌, ◌%◌, ◌<◌, ◌≤◌, List, [], ◌++◌, map, length, reverse, Option, Some, None, is_some, option_map, slice_get}
use Rattle.bites_spec.specs.Program.{Program}
use Rattle.bites_spec.specs.Closure.{Walking, WalksTo}
use Rattle.bites_table.specs.Kinds.{Kind, kind_of, leads_by, AreAlikeKinds, Classes}
use Rattle.bites_table.specs.Sources.{Thread, Source, on_row}
use Rattle.bites_table.specs.Takers.{takers_by, taken}
use Rattle.bites_table.specs.Transition.{Starts, everywhere, starts_after, cuts_off, ThreadList, IsTransition, source_at, begun}
use Rattle.bites_table.specs.Table as tables
use Rattle.bites_table.specs.Table.{list_at}
use Rattle.bites_table.specs.Built.{kind_as, starts_as, source_of, frame_of, walking_of}
use Rattle.bites_table.specs.Graph.{NumberedList, Outcome, Cell, Graph, transition_with, table_of, registers_at, AreHeld, with_cells}
use Rattle.bites_table.specs.Visited.{AreApart}
use Rattle.bites_table.specs.declared.kind.Kind as code
use Rattle.bites_table.specs.declared.kind.Here.{Here}
use Rattle.bites_table.specs.declared.thread_list.Frame.{Frame}
use Rattle.bites_table.specs.declared.walk.Walk.{Walk}
use Rattle.bites_table.specs.declared.explore.Row.{Row}
use Rattle.bites_table.specs.declared.explore.base.Base.{Base}
use Rattle.bites_table.specs.declared.explore.base.Noted.{Noted}

-- the lists of the first graph come first in the second, over the same classes, and so do its outcomes
pub record Grows (g h : Graph) : Type 0 where
  pub classes : h.classes ≡ g.classes
  pub more : List NumberedList
  pub lists : h.lists ≡ g.lists ++ more
  pub more_outcomes : List Outcome
  pub outcomes : h.outcomes ≡ g.outcomes ++ more_outcomes

-- a transition of the list over the class
pub record IsCell (p : Program) (k : Classes) (g : Graph) (n c : ℕ) (x : Cell) : Type 0 where
  pub within : n < length g.lists
  pub outcome : Outcome
  pub named : slice_get g.outcomes x.outcome ≡ Some outcome
  pub transition : IsTransition p (leads_by (list_at (table_of g) n).kind (k.member c)) (list_at (table_of g) n) (tables.with_list (table_of g) (transition_with x outcome))
  pub kind : AreAlikeKinds p (list_at (table_of g) outcome.next).kind (kind_of (k.member c))

-- all that was made so far is right
pub record IsMade (p : Program) (k : Classes) (g : Graph) : Type 0 where
  pub held : (n : ℕ) (l : NumberedList) → slice_get g.lists n ≡ Some l → AreHeld l.registers l.threads
  pub next : (i : ℕ) (o : Outcome) → slice_get g.outcomes i ≡ Some o → o.next < length g.lists
  pub moves : (i : ℕ) (o : Outcome) → slice_get g.outcomes i ≡ Some o → length o.moves ≡ registers_at g o.next
  pub cells : (j : ℕ) (x : Cell) → slice_get g.cells j ≡ Some (Some x) → IsCell p k g (j / g.classes) (j % g.classes) x

-- the transitions of the list, whether they are known or not, begin at this index
pub record IsRow (g : Graph) (n first : ℕ) : Type 0 where
  pub begins : first ≡ n * g.classes
  pub within : first + g.classes ≤ length g.cells

-- the list was walked before a byte of the kind
pub record IsWalked (p : Program) (l : ThreadList) (after : Kind) (w : Walk) (looks : ℕ) : Type 0 where
  pub walks : WalksTo (takers_by (cuts_off l.starts) l.kind after) p (begun p l) (walking_of w looks)
  pub over : w.stack ≡ []

-- the outcome over a class of a walk that ended with these threads and this hit, where the start is walked so after it
pub record IsOutcome (p : Program) (k : Classes) (g : Graph) (c : ℕ) (next : List (Thread Source)) (hit : Option Frame) (starts : Starts) (n : ℕ) : Type 0 where
  pub outcome : Outcome
  pub named : slice_get g.outcomes n ≡ Some outcome
  pub threads : taken p (k.member c) next ≡ map (on_row (source_at (map source_of outcome.moves))) (list_at (table_of g) outcome.next).threads
  pub hit_is : outcome.hit ≡ hit
  pub walked : (list_at (table_of g) outcome.next).starts ≡ starts
  pub kind : AreAlikeKinds p (list_at (table_of g) outcome.next).kind (kind_of (k.member c))

-- a walk that is over, with these visits, threads at states that take characters, hit and looks
abbrev pub ended : List ℕ → List (Thread Source) → Option (Thread Source) → ℕ → Walking (Thread Source)
ended seen next hit looks = record { stack = []; seen = seen; next = next; first_match = hit; looks = looks }

-- the list of the start alone, which is walked at each place
abbrev pub start_alone : Kind → ThreadList
start_alone k = record { threads = []; starts = everywhere; kind = k }

-- such a list was walked as noted
pub record IsNoted (p : Program) (g : Graph) (x : Noted) : Type 0 where
  pub number : ℕ
  pub within : number < length g.lists
  pub list : list_at (table_of g) number ≡ start_alone (kind_as x.here.before)
  pub begins : x.first ≡ number * g.classes
  pub next : List (Thread Source)
  pub walks : WalksTo (takers_by true (kind_as x.here.before) (kind_as x.here.after)) p (begun p (start_alone (kind_as x.here.before))) (ended x.visited next None x.looks)

abbrev pub AreNoted : Program → Graph → Base → Type 0
AreNoted p g b = (i : ℕ) (x : Noted) → slice_get b.notes.items i ≡ Some x → IsNoted p g x

-- the noted walk is one between bytes of these kinds, and visits nothing of these
pub record IsAfter (b : Base) (visited : List ℕ) (here : Here) (x : Noted) : Type 0 where
  pub number : ℕ
  pub there : slice_get b.notes.items number ≡ Some x
  pub before : x.here.before ≡ here.before
  pub after : x.here.after ≡ here.after
  pub apart : AreApart x.visited visited

-- a noted walk before a byte of the kind, where transitions begin at this index, ended with these threads
pub record IsBase (p : Program) (g : Graph) (kind : code.Kind) (first : ℕ) (rest : List (Thread Source)) : Type 0 where
  pub noted : Noted
  pub is : IsNoted p g noted
  pub after : noted.here.after ≡ kind
  pub first_is : noted.first ≡ first
  pub next : is.next ≡ rest

-- what a walk visited, and what is listed if it ended with a noted one
abbrev pub visits_of : Walk → List ℕ → Option ℕ → List ℕ
visits_of w seen None = w.visited
visits_of w seen (Some first) = reverse seen

-- the list of the row was walked so, and the walk ended with the threads of the noted one, if it has one
pub record IsRowOf (p : Program) (g : Graph) (w : Walk) (seen : List ℕ) (row : Row) : Type 0 where
  pub rest : List (Thread Source)
  pub walks : WalksTo (takers_by (cuts_off (list_at (table_of g) row.number).starts) (list_at (table_of g) row.number).kind (kind_as row.kind)) p (begun p (list_at (table_of g) row.number))
      (ended (visits_of w seen row.base) (map frame_of w.takers.items ++ rest) (option_map frame_of w.hit) row.looks)
  pub starts : starts_as row.starts ≡ starts_after (is_some w.hit) (list_at (table_of g) row.number).starts
  pub alone : row.base ≡ None → rest ≡ []
  pub joined : (first : ℕ) → row.base ≡ Some first → IsBase p g row.kind first rest × (w.hit ≡ None) × (starts_as row.starts ≡ everywhere)

-- the outcome of the list of a row over a class
pub record IsOutcomeOf (p : Program) (k : Classes) (g : Graph) (w : Walk) (seen : List ℕ) (row : Row) (c n : ℕ) : Type 0 where
  pub row_is : IsRowOf p g w seen row
  pub outcome : IsOutcome p k g c (map frame_of w.takers.items ++ row_is.rest) w.hit (starts_as row.starts) n

-- the number of the outcome over a class in the row that begins at this index
pub record NamesAt (g : Graph) (first : Option ℕ) (c n : ℕ) : Type 0 where
  pub row : ℕ
  pub first_is : first ≡ Some row
  pub cell : Cell
  pub known : slice_get g.cells (row + c) ≡ Some (Some cell)
  pub named : cell.outcome ≡ n

-- only transitions were added, and what was made so far is right
pub record IsFilled (p : Program) (k : Classes) (g h : Graph) : Type 0 where
  pub made : IsMade p k h
  pub same : h ≡ with_cells g h.cells
  pub len : length h.cells ≡ length g.cells
