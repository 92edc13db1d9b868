-- How a table is laid out.
use Rattle.std.specs.Prelude.{◌≡◌, ℕ, true, ◌+◌, ◌*◌, ◌<◌, List, map, length, Some, slice_get, slice_range}
use Rattle.bites_spec.specs.Walks.{Among}
use Rattle.bites_machine.specs.declared.vm.resume.RegisterThread.{RegisterThread}
use Rattle.bites_table.specs.Kinds as kinds
use Rattle.bites_table.specs.Table.{list_at}
use Rattle.bites_table.specs.Explored.{HasOneRoot, number_in}
use Rattle.bites_table.specs.Steps.{NameRegisters, most_registers}
use Rattle.bites_table.specs.Packed.{Packed, table_in, lists_in, stride, row_of, Tells, IsPartOf, AreHeldHits, thread_with_register, classes_in}
use Rattle.bites_table.specs.Stays.{AreStays}
use Rattle.bites_table.specs.declared.explore.roots.Roots.{Roots}
use Rattle.bites_table.specs.declared.table.act.Act.{Act}
use Rattle.bites_table.specs.declared.table.cell.Cell.{Cell}
use Rattle.bites_table.specs.declared.table.ListEntry.{ListEntry}
use Rattle.bites_table.specs.declared.table.Table.TheInside.{Inside}

abbrev pub packed_in : Inside → Packed
packed_in a = record {
  slots = a.slots;
  cells = a.cells.items;
  intervals = a.classes;
  graph = a.graph.value;
  everywhere = a.everywhere;
  here = a.here;
  longest = a.is_longest;
  acts = a.acts.items;
  steps = a.steps.items;
}

-- the cells tell of lists and classes, row after row
abbrev pub Tell : Packed → List Cell → Type 0
Tell x cells = (n c : ℕ) (a : Cell) → c < stride x → slice_get cells (row_of x n + c) ≡ Some a → Tells x n c a

-- all lists have a row
pub record AreCells (x : Packed) (cells : List Cell) : Type 0 where
  pub len : length cells ≡ lists_in x * stride x
  pub told : Tell x cells

-- an entry of a list
pub record IsEntry (x : Packed) (threads : List RegisterThread) (n : ℕ) (l : ListEntry) : Type 0 where
  pub part : IsPartOf (length threads) l.threads
  pub threads_are : map thread_with_register (slice_range threads l.threads.from l.threads.to) ≡ (list_at (table_in x) n).threads

-- the roots are lists that are there
abbrev pub AreWithin : ℕ → Roots → Type 0
AreWithin lists r = (k : kinds.Kind) → number_in r k < lists

-- the table as a contract sees it is the one that is stored
pub record IsLaidOut (a : Inside) : Type 0 where
  pub stride_is : a.stride ≡ stride (packed_in a)
  pub cells : AreCells (packed_in a) a.cells.items
  pub parts : (i : ℕ) (x : Act) → slice_get a.acts.items i ≡ Some x → IsPartOf (length a.steps.items) x.steps
  pub hits : AreHeldHits a.acts.items
  pub names : NameRegisters a.steps.items
  pub count : length a.lists.items ≡ lists_in (packed_in a)
  pub entries : (n : ℕ) (l : ListEntry) → slice_get a.lists.items n ≡ Some l → IsEntry (packed_in a) a.threads.items n l
  pub held : (t : RegisterThread) → Among a.threads.items t → t.register < most_registers
  pub stays : AreStays (table_in (packed_in a)) (classes_in (packed_in a)) a.stays.skips.items a.stays.lists.items
  pub everywhere : AreWithin (lists_in (packed_in a)) a.everywhere
  pub here : AreWithin (lists_in (packed_in a)) a.here
  pub one_root : a.has_one_root ≡ true → HasOneRoot a.everywhere × HasOneRoot a.here
