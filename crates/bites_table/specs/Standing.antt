-- A search by a table between two places, as the code holds it.
use Rattle.std.specs.Prelude.{◌≡◌, ℕ, ◌<◌, ◌≤◌, Bool, ◌||◌, ◌&&◌, List, length, Option, Some, None, is_some, ◌==◌}
use Rattle.bites_spec.specs.Utf8.{piece}
use Rattle.bites_spec.specs.Walks.{Among}
use Rattle.bites_spec.specs.Program.{Program, IsWellFormed}
use Rattle.bites_spec.specs.Counts.{Record}
use Rattle.bites_spec.specs.PikeVm as vm
use Rattle.bites_machine.specs.Ends.{next_character}
use Rattle.bites_machine.specs.Sweep.{left_in, SearchResult}
use Rattle.bites_machine.specs.Resume.{row_in}
use Rattle.bites_table.specs.Sources.{Thread, Source, row_at}
use Rattle.bites_table.specs.Transition.{Transition, source_at}
use Rattle.bites_table.specs.Table.{list_at, TableSearch, Input, Reached}
use Rattle.bites_table.specs.Packed.{Packed, table_in, classes_in, lists_in, row_of, is_dead, IsTableOf}

-- What is searched: a program by its table, as the input asks, and the slots as the search began.
pub record Asked : Type 0 where
  pub program : Program
  pub table : Packed
  pub input : Input
  pub slots : List (Option ℕ)

-- the longest match is searched for at one place alone, by a table that was made for this; any other match is not, by such a table
abbrev pub IsServed : Packed → (longest anchored : Bool) → Type 0
IsServed x longest anchored = longest ≡ (anchored && x.longest)

-- The table is one of the program that serves the search, and the input and the slots are such as a search may have.
pub record IsAsked (s : Asked) : Type 0 where
  pub table : IsTableOf s.program s.table
  pub well : IsWellFormed s.program
  pub within : s.input.start ≤ length s.input.hay
  pub width : length s.slots ≡ s.input.width
  pub fits : s.input.width ≤ s.program.slots
  pub served : IsServed s.table s.input.longest s.input.anchored

-- the search with these registers
abbrev pub search_at : Asked → ℕ → ℕ → List (Option ℕ) → Option vm.Thread → Record → TableSearch
search_at s place list registers best walked = record {
  place = place;
  list = list;
  registers = row_in registers s.input.width;
  best = best;
  visits = walked.visits;
  looks = walked.looks;
}

-- The search stands at this place, with this thread list.
pub record IsAt (s : Asked) (place list : ℕ) (registers : List (Option ℕ)) (is_found : Bool) (left : List (Option ℕ)) (walked : Record) : Type 0 where
  pub places : ℕ
  pub best : Option vm.Thread
  pub reached : Reached s.program (table_in s.table) s.input places (search_at s place list registers best walked)
  pub found : is_some best ≡ is_found
  pub slots : left_in best s.slots ≡ left

-- it stands at the thread list whose cells begin there
pub record IsAtRow (s : Asked) (place row : ℕ) (registers : List (Option ℕ)) (is_found : Bool) (left : List (Option ℕ)) (walked : Record) : Type 0 where
  pub list : ℕ
  pub within : list < lists_in s.table
  pub row_is : row ≡ row_of s.table list
  pub here : IsAt s place list registers is_found left walked

-- the search ended
abbrev pub IsOver : Asked → Bool → List (Option ℕ) → Record → Type 0
IsOver s is_found slots walked = SearchResult s.program s.input.hay s.input.longest s.input.anchored s.input.earliest s.input.start is_found s.slots slots walked

-- the transition of the list at a place, if it is known
abbrev pub transition_from : Asked → ℕ → ℕ → Option (Transition ℕ)
transition_from s list place = (table_in s.table).transition list ((classes_in s.table).class_of (next_character s.input.hay place))

-- the search is over after a place
abbrev pub ends_after : Asked → ℕ → ℕ → Bool → Bool
ends_after s place list is_found = ((piece s.input.hay place).len == 0) || ((s.input.earliest && is_found) || is_dead (list_at (table_in s.table) list))

-- the slots after a transition that comes to a match or does not
abbrev pub slots_after : ℕ → ℕ → List (Option ℕ) → Option (Thread Source) → List (Option ℕ) → List (Option ℕ)
slots_after width place registers None slots = slots
slots_after width place registers (Some t) slots = row_at width place (row_in registers width) t.row

-- each thread of the list has the row that its source stands for
abbrev pub AreMoved : ℕ → ℕ → List (Thread ℕ) → List Source → List (Option ℕ) → List (Option ℕ) → Type 0
AreMoved width place threads moves old new = (u : Thread ℕ) → Among threads u → row_in new width u.row ≡ row_at width place (row_in old width) (source_at moves u.row)
