-- A table as a search reads it.
use Rattle.std.specs.Prelude.{◌≡◌, ℕ, suc, ◌+◌, ◌*◌, ◌<◌, ◌≤◌, Bool, true, false, ◌&&◌, not, List, length, reverse, Option, Some, IfSome, None, option_map, if◌then◌else◌, ◌==◌, slice_get, slice_range, bit_and}
use Rattle.bites_spec.specs.Walks.{Among}
use Rattle.bites_spec.specs.Program.{Program}
use Rattle.bites_machine.specs.declared.vm.resume.RegisterThread.{RegisterThread}
use Rattle.bites_table.specs.Kinds as kinds
use Rattle.bites_table.specs.Kinds.{AreClasses}
use Rattle.bites_table.specs.Sources.{Thread, Source, unwritten, row_of_register, write}
use Rattle.bites_table.specs.Transition.{everywhere, is_walked, ThreadList, Transition, source_at}
use Rattle.bites_table.specs.Table.{Table, IsTable, list_at, is_empty, starts_of}
use Rattle.bites_table.specs.Built.{frame_of}
use Rattle.bites_table.specs.Graph.{Graph, table_of}
use Rattle.bites_table.specs.Classes.{Intervals, classes_of}
use Rattle.bites_table.specs.Explored.{AreRoots}
use Rattle.bites_table.specs.Steps.{MakeMoves, most_registers, with_spare}
use Rattle.bites_table.specs.declared.explore.roots.Roots.{Roots}
use Rattle.bites_table.specs.declared.thread_list.Frame.{Frame}
use Rattle.bites_table.specs.declared.steps.Step.{Step}
use Rattle.bites_table.specs.declared.table.act.Act.{Act}
use Rattle.bites_table.specs.declared.table.act.Part.{Part}
use Rattle.bites_table.specs.declared.table.cell.Cell.{Cell}

-- the number of slots of the program, classes of characters, thread lists with their transitions, the lists where searches begin,
-- whether those at one place are for the longest match, its cells, what transitions do, and all their steps
pub record Packed : Type 0 where
  pub slots : ℕ
  pub cells : List Cell
  pub intervals : Intervals
  pub graph : Graph
  pub everywhere : Roots
  pub here : Roots
  pub longest : Bool
  pub acts : List Act
  pub steps : List Step

abbrev pub table_in : Packed → Table
table_in x = table_of x.graph

abbrev pub classes_in : Packed → kinds.Classes
classes_in x = classes_of x.intervals

-- the number of thread lists
abbrev pub lists_in : Packed → ℕ
lists_in x = length x.graph.lists

-- the number of cells of a row: one for each class, and one for all bytes past ASCII
abbrev pub stride : Packed → ℕ
stride x = suc (classes_in x).len

-- the place of the first cell of a thread list
abbrev pub row_of : Packed → ℕ → ℕ
row_of x n = n * stride x

-- the row is that of a thread list
pub record IsRow (x : Packed) (row : ℕ) : Type 0 where
  pub number : ℕ
  pub within : number < lists_in x
  pub is : row ≡ row_of x number

-- The bit of a search for so many slots of those of the program. A search for any other number looks at each cell.
abbrev pub mask_of : (slots width : ℕ) → ℕ
mask_of slots width = if width == 0 then 1 else if width == 2 then 2 else if width == slots then 4 else 255

-- the bit of a cell that names nothing that the transition does, or of what is not known
abbrev pub unknown : ℕ
unknown = 8

-- the bit over which a search for two slots has more to do than to keep a hit
abbrev pub more : ℕ
more = 16

-- the bit over which a search for all slots has more to do than to keep a hit
abbrev pub more_for_all : ℕ
more_for_all = 128

-- the bit over which a search has more to do than to run steps
abbrev pub more_than_steps : ℕ
more_than_steps = 32

-- the bit that is not set where a search for two slots is over with a hit that it has only to keep
abbrev pub ends : ℕ
ends = 64

-- no thread is left and none begins
abbrev pub is_dead : ThreadList → Bool
is_dead l = not (is_walked l.starts) && is_empty l.threads

-- two sources of one row of so many slots
pub record AreAlike (width : ℕ) (s r : Source) : Type 0 where
  pub register : 0 < width → s.register ≡ r.register
  pub writes : (k : ℕ) → k < width → s.writes k ≡ r.writes k

-- each thread of the list has the row of the register of its own number, in so many slots
abbrev pub AreKept : ThreadList → List Source → ℕ → Type 0
AreKept next moves width = (u : Thread ℕ) → Among next.threads u → AreAlike width (source_at moves u.row) (row_of_register u.row)

-- nobody comes to a match, and the search is not over
pub record GoesOn (comes : Option (Thread Source)) (next : ThreadList) : Type 0 where
  pub hit : comes ≡ None
  pub alive : is_dead next ≡ false

-- it goes on, and each thread that comes next is kept, in so many slots
pub record IsQuiet (comes : Option (Thread Source)) (next : ThreadList) (moves : List Source) (width : ℕ) : Type 0 where
  pub goes : GoesOn comes next
  pub rows : AreKept next moves width

-- of the row's first two slots the place is written to the first alone, and nothing was written before
pub record BeginsRow (s : Source) : Type 0 where
  pub register : s.register ≡ None
  pub first : s.writes 0 ≡ true
  pub second : s.writes 1 ≡ false

-- What a search leaves in the row of a register where it has not to look, by the bit of its slots: with two the row of one register
-- begins, with all the slot of an index is written, counted over all rows.
abbrev pub passed_row : (bit width begins index r : ℕ) → Source
passed_row bit width begins index r =
    if bit == 2 then (if r == begins then write 0 unwritten else row_of_register r)
    else if bit == 4 then record { register = Some r; writes = λ k. r * width + k == index } else row_of_register r

-- Each thread that comes next has the row that a search for so many slots leaves there where it has not to look.
pub record ArePassed (threads : List (Thread ℕ)) (moves : List Source) (bit width begins index : ℕ) : Type 0 where
  pub register : begins < with_spare
  pub index_within : bit ≡ 4 → index < with_spare * width
  pub rows : (u : Thread ℕ) → Among threads u → AreAlike width (source_at moves u.row) (passed_row bit width begins index u.row)

-- of the first two slots of the register's row the place is written to the second alone
pub record EndsRow (register : ℕ) (s : Source) : Type 0 where
  pub register_is : s.register ≡ Some register
  pub first : s.writes 0 ≡ false
  pub second : s.writes 1 ≡ true

-- Somebody comes to a match with the row of a register, which ends at the place. The search is not over, and each thread that comes next
-- is kept, in two slots.
pub record IsHit (comes : Option (Thread Source)) (next : ThreadList) (moves : List Source) (register : ℕ) : Type 0 where
  pub thread : Thread Source
  pub hit : comes ≡ Some thread
  pub ends : EndsRow register thread.row
  pub there : register < with_spare
  pub alive : is_dead next ≡ false
  pub rows : AreKept next moves 2

-- Somebody comes to a match. The search is not over, and each thread that comes next is kept, in all slots.
pub record IsWholeHit (comes : Option (Thread Source)) (next : ThreadList) (moves : List Source) : Type 0 where
  pub thread : Thread Source
  pub hit : comes ≡ Some thread
  pub alive : is_dead next ≡ false
  pub rows : (width : ℕ) → AreKept next moves width

-- Somebody comes to a match with the row of a register, which ends at the place, and the search is over.
pub record IsLast (comes : Option (Thread Source)) (next : ThreadList) (register : ℕ) : Type 0 where
  pub thread : Thread Source
  pub hit : comes ≡ Some thread
  pub ends : EndsRow register thread.row
  pub there : register < with_spare
  pub dead : is_dead next ≡ true

-- the cell stands for the transition of a list over a class
pub record IsCell (x : Packed) (n c : ℕ) (a : Cell) (t : Transition ℕ) : Type 0 where
  pub transition : (table_in x).transition n c ≡ Some t
  pub next : a.next ≡ row_of x t.next
  pub within : t.next < lists_in x
  pub seen : t.seen ≡ reverse a.seen.value.items
  pub looks : t.looks ≡ a.looks.value
  pub held : (u : Thread ℕ) → Among (list_at (table_in x) t.next).threads u → u.row < length t.moves
  pub few : length t.moves ≤ most_registers

-- the cell names what the transition does
pub record NamesAct (x : Packed) (a : Cell) (t : Transition ℕ) : Type 0 where
  pub act : Act
  pub named : slice_get x.acts a.act ≡ Some act
  pub hit : t.hit ≡ option_map frame_of act.hit
  pub list : act.next ≡ t.next
  pub over : act.is_over ≡ is_dead (list_at (table_in x) t.next)
  pub moves : MakeMoves (slice_range x.steps act.steps.from act.steps.to) t.moves

-- the cell stands for a transition that is known
abbrev pub IsKnown : Packed → ℕ → ℕ → Cell → Type 0
IsKnown x n c a = (t : Transition ℕ) × IsCell x n c a t

-- what the bits of a cell say of the list and the class
pub record Tells (x : Packed) (n c : ℕ) (a : Cell) : Type 0 where
  pub known : bit_and a.doing unknown ≡ 0 → (t : Transition ℕ) × IsCell x n c a t × NamesAct x a t
  pub passed : (width : ℕ) → bit_and a.doing (mask_of x.slots width) ≡ 0 → (t : Transition ℕ) × IsCell x n c a t × GoesOn t.hit (list_at (table_in x) t.next)
      × ArePassed (list_at (table_in x) t.next).threads t.moves (mask_of x.slots width) width a.begins a.act
  pub hits : bit_and a.doing more ≡ 0 → (t : Transition ℕ) × IsCell x n c a t × IsHit t.hit (list_at (table_in x) t.next) t.moves a.begins
  pub whole_hits : bit_and a.doing more_for_all ≡ 0 → (t : Transition ℕ) × IsCell x n c a t × NamesAct x a t × IsWholeHit t.hit (list_at (table_in x) t.next) t.moves
  pub goes : bit_and a.doing more_than_steps ≡ 0 → (t : Transition ℕ) × IsCell x n c a t × NamesAct x a t × GoesOn t.hit (list_at (table_in x) t.next)
  pub ends : bit_and a.doing ends ≡ 0 → (t : Transition ℕ) × IsCell x n c a t × IsLast t.hit (list_at (table_in x) t.next) a.begins

-- the part lies in a list of this length
abbrev pub IsPartOf : ℕ → Part → Type 0
IsPartOf len part = (part.from ≤ part.to) × (part.to ≤ len)

-- the row of a hit comes from a register that is there, if it comes from one
abbrev pub IsHeldFrame : Frame → Type 0
IsHeldFrame f = IfSome f.source.register (λ r. r < most_registers)

abbrev pub IsHeldHit : Option Frame → Type 0
IsHeldHit hit = IfSome hit IsHeldFrame

abbrev pub AreHeldHits : List Act → Type 0
AreHeldHits acts = (i : ℕ) (a : Act) → slice_get acts i ≡ Some a → IsHeldHit a.hit

-- a thread as the Pike VM takes it over
abbrev pub thread_with_register : RegisterThread → Thread ℕ
thread_with_register t = record { state = t.state; row = t.register }

-- the table is one for the program, with the lists where searches begin
pub record IsTableOf (p : Program) (x : Packed) : Type 0 where
  pub classes : AreClasses p (classes_in x)
  pub table : IsTable p (classes_in x) (table_in x)
  pub len : x.graph.classes ≡ (classes_in x).len
  pub everywhere : AreRoots p x.graph everywhere x.everywhere
  pub here : AreRoots p x.graph (starts_of x.longest true true) x.here
