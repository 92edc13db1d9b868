-- What stays true while a graph of thread lists is laid out.
use Rattle.std.specs.Prelude.{◌≡◌, ◌≢◌, ℕ, suc, ◌+◌, ◌*◌, ◌<◌, ◌≤◌, ◌⊎◌, Bool, true, false, ◌||◌, ◌==◌, if◌then◌else◌, nat_le, List, map, drop, length, Option, Some, option_map, slice_get, slice_range, bit_and}
use Rattle.bites_spec.specs.Walks.{Among}
use Rattle.bites_machine.specs.declared.vm.resume.RegisterThread.{RegisterThread}
use Rattle.bites_machine.specs.Bits.{has_bit}
use Rattle.bites_table.specs.Sources as sources
use Rattle.bites_table.specs.Sources.{row_of_register, write}
use Rattle.bites_table.specs.Transition.{ThreadList, source_at}
use Rattle.bites_table.specs.Table.{list_at}
use Rattle.bites_table.specs.Built.{source_of, frame_of}
use Rattle.bites_table.specs.Graph.{NumberedList, Outcome, Graph, table_of}
use Rattle.bites_table.specs.Stored.{cell_of}
use Rattle.bites_table.specs.Steps.{MakeMoves, NameRegisters, most_registers}
use Rattle.bites_table.specs.Packed.{Packed, stride, mask_of, more, more_for_all, more_than_steps, ends, is_dead, IsPartOf, AreHeldHits, BeginsRow, passed_row, AreAlike, ArePassed, EndsRow, GoesOn, IsQuiet, IsHit, IsWholeHit, IsLast}
use Rattle.bites_table.specs.Layout.{Tell}
use Rattle.bites_table.specs.declared.thread_list.Thread.{Thread}
use Rattle.bites_table.specs.declared.thread_list.Source.{Source}
use Rattle.bites_table.specs.declared.thread_list.Frame.{Frame}
use Rattle.bites_table.specs.declared.explore.graph.Cell as made
use Rattle.bites_table.specs.declared.steps.Step.{Step}
use Rattle.bites_table.specs.declared.table.ListEntry.{ListEntry}
use Rattle.bites_table.specs.declared.table.act.Act.{Act}
use Rattle.bites_table.specs.declared.table.cell.Cell.{Cell}
use Rattle.bites_table.specs.declared.table.layout.Acts.{Acts}
use Rattle.bites_table.specs.declared.table.layout.Lists.{Lists}
use Rattle.bites_table.specs.declared.table.layout.Name.{Name}

-- a thread as the Pike VM takes it over
abbrev pub register_thread : Thread → RegisterThread
register_thread t = record { state = t.state; register = t.register }

abbrev pub AreHeldBelow : ℕ → List RegisterThread → Type 0
AreHeldBelow n ts = (t : RegisterThread) → Among ts t → t.register < n

-- an entry of a list
pub record IsEntryOf (threads : List RegisterThread) (l : NumberedList) (e : ListEntry) : Type 0 where
  pub part : IsPartOf (length threads) e.threads
  pub threads_are : slice_range threads e.threads.from e.threads.to ≡ map register_thread l.threads

-- the entries of the first lists
abbrev pub AreEntries : Graph → List RegisterThread → List ListEntry → Type 0
AreEntries g threads entries =
    (n : ℕ) (l : NumberedList) (e : ListEntry) → slice_get g.lists n ≡ Some l → slice_get entries n ≡ Some e → IsEntryOf threads l e

-- the first lists are laid out, and their threads have registers that are there
pub record AreFirstLists (g : Graph) (n : ℕ) (l : Lists) : Type 0 where
  pub count : length l.entries.items ≡ n
  pub entries : AreEntries g l.threads.items l.entries.items
  pub held : AreHeldBelow most_registers l.threads.items

-- the slots of a mask, and those that no bit stands for
abbrev pub masked : ℕ → ℕ → Bool
masked mask k = has_bit mask k || nat_le 64 k

-- a source is the row of the register, in which no slot of the mask is written
pub record IsOwn (register mask : ℕ) (s : Source) : Type 0 where
  pub register_is : s.register ≡ Some register
  pub unwritten : (k : ℕ) → masked mask k ≡ true → has_bit s.writes k ≡ false

-- a thread has the row of the register of its own number, and no slot of the mask is written there
pub record IsKept (moves : List Source) (mask : ℕ) (t : Thread) : Type 0 where
  pub register : (source_at (map source_of moves) t.register).register ≡ Some t.register
  pub unwritten : (k : ℕ) → masked mask k ≡ true → (source_at (map source_of moves) t.register).writes k ≡ false

-- the row of the thread begins at the place
abbrev pub IsBegun : List Source → Thread → Type 0
IsBegun moves t = BeginsRow (source_at (map source_of moves) t.register)

-- it does if the thread has this register; else the thread has the row of the register of its own number in the first two slots
pub record IsKeptOrBegun (moves : List Source) (register : ℕ) (t : Thread) : Type 0 where
  pub begun : t.register ≡ register → IsBegun moves t
  pub kept : t.register ≢ register → IsKept moves 3 t

-- it has that row, in which the place is written to a slot if it is that of this register, and else to none
abbrev pub IsWritten : List Source → (register slot r : ℕ) → Type 0
IsWritten moves register slot r =
    source_at (map source_of moves) r ≡ (if r == register then write slot (row_of_register r) else row_of_register r)

-- it has the row that a search for all of so many slots leaves there where it writes the slot of this index
abbrev pub WritesIndex : List Source → (slots index r : ℕ) → Type 0
WritesIndex moves slots index r = AreAlike slots (source_at (map source_of moves) r) (passed_row 4 slots 0 index r)

-- for the widths whose bits are not set it goes on, and a search leaves the rows that come next
abbrev pub PassesByBits : (slots : ℕ) → Outcome → ThreadList → (begins index doing : ℕ) → Type 0
PassesByBits slots o next begins index doing = (width : ℕ) → bit_and doing (mask_of slots width) ≡ 0 →
    GoesOn (option_map frame_of o.hit) next × ArePassed next.threads (map source_of o.moves) (mask_of slots width) width begins index

-- for each width it does nothing
abbrev pub DoesNothing : Outcome → ThreadList → Type 0
DoesNothing o next = (width : ℕ) → IsQuiet (option_map frame_of o.hit) next (map source_of o.moves) width

-- where cells have an index they name nothing that the outcome does
abbrev pub IndicesByBits : (doing : ℕ) → Type 0
IndicesByBits doing = bit_and doing 4 ≡ 0 → doing ≡ 248

-- somebody comes to a match with the row of a register, which ends at the place
pub record EndsHit (hit : Option Frame) (register : ℕ) : Type 0 where
  pub frame : Frame
  pub is : hit ≡ Some frame
  pub ends : EndsRow register (source_of frame.source)

-- if the bit is not set somebody comes to a match so, and rows are kept
abbrev pub HitsByBits : Outcome → ThreadList → (register doing : ℕ) → Type 0
HitsByBits o next register doing = bit_and doing more ≡ 0 → IsHit (option_map frame_of o.hit) next (map source_of o.moves) register

-- if the bit is not set somebody comes to a match, and rows are kept in all slots
abbrev pub WholeHitsByBits : Outcome → ThreadList → (doing : ℕ) → Type 0
WholeHitsByBits o next doing = bit_and doing more_for_all ≡ 0 → IsWholeHit (option_map frame_of o.hit) next (map source_of o.moves)

-- if the bit is not set a search for two slots is over there with such a hit
abbrev pub EndsByBits : Outcome → ThreadList → (register doing : ℕ) → Type 0
EndsByBits o next register doing = bit_and doing ends ≡ 0 → IsLast (option_map frame_of o.hit) next register

-- if the bit is not set it goes on
abbrev pub GoesOnByBits : Outcome → ThreadList → (doing : ℕ) → Type 0
GoesOnByBits o next doing = bit_and doing more_than_steps ≡ 0 → GoesOn (option_map frame_of o.hit) next

-- what an outcome does
pub record IsAct (slots : ℕ) (steps : List Step) (o : Outcome) (next : ThreadList) (a : Act) : Type 0 where
  pub hit : a.hit ≡ o.hit
  pub list : a.next ≡ o.next
  pub over : a.is_over ≡ is_dead next
  pub part : IsPartOf (length steps) a.steps
  pub moves : a.doing ≢ 255 → MakeMoves (slice_range steps a.steps.from a.steps.to) (map source_of o.moves)
  pub held : a.doing ≢ 255 → (u : sources.Thread ℕ) → Among next.threads u → u.row < length o.moves
  pub few : a.doing ≢ 255 → length o.moves ≤ most_registers
  pub passes : PassesByBits slots o next a.begins a.index a.doing
  pub indices : IndicesByBits a.doing
  pub hits : HitsByBits o next a.begins a.doing
  pub whole_hits : WholeHitsByBits o next a.doing
  pub goes : GoesOnByBits o next a.doing
  pub ends : EndsByBits o next a.begins a.doing

pub record IsActOf (g : Graph) (slots : ℕ) (steps : List Step) (o : Outcome) (a : Act) : Type 0 where
  pub within : o.next < length g.lists
  pub act : IsAct slots steps o (list_at (table_of g) o.next) a

-- what the first outcomes do
abbrev pub AreActs : Graph → (slots : ℕ) → List Step → List Act → Type 0
AreActs g slots steps acts = (i : ℕ) (o : Outcome) (a : Act) → slice_get g.outcomes i ≡ Some o → slice_get acts i ≡ Some a → IsActOf g slots steps o a

-- what the cells of an act have, which has this number, for rows of so many cells
pub record IsNamed (a : Act) (number cells_of_row : ℕ) (m : Name) : Type 0 where
  pub next : m.next ≡ a.next * cells_of_row
  pub act : m.act ≡ (if bit_and a.doing 4 == 0 then a.index else number)
  pub doing : m.doing ≡ a.doing
  pub begins : m.begins ≡ a.begins

-- or nothing is known
abbrev pub Names : Act → (number cells_of_row : ℕ) → Name → Type 0
Names a number cells_of_row m = (m.doing ≡ 255) ⊎ IsNamed a number cells_of_row m

-- so for the first acts
abbrev pub AreNamed : List Act → (cells_of_row : ℕ) → List Name → Type 0
AreNamed acts cells_of_row names = (i : ℕ) (m : Name) → slice_get names i ≡ Some m → (a : Act) × (slice_get acts i ≡ Some a) × Names a i cells_of_row m

-- the first outcomes are laid out: what they do, by steps whose registers are there, and what their cells have, in rows of so many cells
pub record AreFirstActs (g : Graph) (slots cells_of_row n : ℕ) (a : Acts) : Type 0 where
  pub count : length a.acts.items ≡ n
  pub do_so : AreActs g slots a.steps.items a.acts.items
  pub hits : AreHeldHits a.acts.items
  pub names : NameRegisters a.steps.items
  pub named : AreNamed a.acts.items cells_of_row a.names.items
  pub len : length a.names.items ≡ n

-- the table has acts with these names, and rows as long as that, for the classes of its graph
pub record Fits (x : Packed) (names : List Name) (cells_of_row : ℕ) : Type 0 where
  pub named : AreNamed x.acts cells_of_row names
  pub count : length x.acts ≡ length x.graph.outcomes
  pub acts_do : AreActs x.graph x.slots x.steps x.acts
  pub stride_is : cells_of_row ≡ stride x
  pub classes : suc x.graph.classes ≡ stride x

-- the cells before those of a list and a class are laid out, and these transitions are left
pub record AreLaid (x : Packed) (n c : ℕ) (left : List (Option made.Cell)) (cells : List Cell) : Type 0 where
  pub left_is : map (option_map cell_of) left ≡ drop (n * x.graph.classes + c) x.graph.cells
  pub len : length cells ≡ n * stride x + c
  pub told : Tell x cells
