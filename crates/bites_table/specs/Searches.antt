-- One search of the code by a table.
use Rattle.std.specs.Prelude.{◌≡◌, ◌≢◌, ℕ, ◌+◌, ◌-◌, ◌*◌, ◌<◌, ◌≤◌, Bool, true, ◌==◌, IsSomeAnd, option_map, if◌then◌else◌, List, [], ◌∷◌, length, reverse, Option, Some, None, slice_get, slice_index_or, slice_range, bit_and}
use Rattle.bites_spec.specs.Utf8.{piece}
use Rattle.bites_spec.specs.Counts.{Fit, HasRoomFor, IsSlotCount}
use Rattle.bites_spec.specs.Program.{Program}
use Rattle.bites_spec.specs.Walks.{AllApart}
use Rattle.bites_machine.specs.Ends.{next_character}
use Rattle.bites_machine.specs.Inputs.{is_earliest, is_longest}
use Rattle.bites_machine.specs.declared.vm.Input.{Input}
use Rattle.bites_machine.specs.SlotTable.{no_slot}
use Rattle.bites_machine.specs.States.{states_of}
use Rattle.bites_machine.specs.Trace.{after_place}
use Rattle.std.specs.Option.{option_flatten}
use Rattle.bites_table.specs.Sources.{Thread, Source}
use Rattle.bites_table.specs.Built.{frame_of}
use Rattle.bites_table.specs.Transition.{Transition}
use Rattle.bites_table.specs.Steps.{with_spare, own_rows, after_steps, AreRows}
use Rattle.bites_table.specs.Packed.{Packed, classes_in, table_in, lists_in, row_of, stride, mask_of, more, more_for_all, Tells, IsHeldFrame, IsTableOf}
use Rattle.bites_table.specs.Standing.{Asked, IsAsked, IsServed, IsAtRow, IsOver, slots_after, transition_from}
use Rattle.bites_table.specs.Trace.{asked_of}
use Rattle.bites_table.specs.declared.table.act.Act.{Act}
use Rattle.bites_table.specs.declared.table.cell.Cell.{Cell}
use Rattle.bites_table.specs.declared.search.record.Search.{Search}
use Rattle.bites_table.specs.declared.search.record.Lent.{Lent}
use Rattle.bites_table.specs.declared.search.record.Standing.{Standing}
use Rattle.bites_table.specs.declared.search.run.Turn.{Turn}
use Rattle.bites_table.specs.declared.search.record.Width.{Width}
use Rattle.bites_table.specs.declared.search.run.Turn.TheVariants.{Goes, Ends, Leaves}

-- what is searched, with the slots as the search began
abbrev pub asked : Search → List (Option ℕ) → Asked
asked a before = asked_of a.program.now.program a.table.now a.input.now before

-- the bits over which a search has more to do than to keep a hit; one for the match with the least end always has
abbrev pub more_to_do : Bool → ℕ → ℕ
more_to_do earliest width = if earliest then 255 else if width == 2 then more else more_for_all

-- the table of a width is that of the search, and the bits are those of its number of slots
pub record HasBits (a : Search) (w : Width) : Type 0 where
  pub table : w.table.now ≡ a.table.now
  pub cells : w.cells.now ≡ a.table.now.cells
  pub bit : w.bit ≡ mask_of a.table.now.slots w.slots
  pub more : w.more ≡ more_to_do (is_earliest a.input.now.kind) w.slots

-- the rows of all registers are those after the steps of what has this number, run at a place
abbrev pub RunsAct : Packed → (act width place : ℕ) → List (Option ℕ) → List (Option ℕ) → Type 0
RunsAct x act width place old new =
    (a : Act) → slice_get x.acts act ≡ Some a → AreRows old width place (after_steps (slice_range x.steps a.steps.from a.steps.to) own_rows) new

-- the same is searched
pub record IsSame (a b : Search) : Type 0 where
  pub program : b.program ≡ a.program
  pub table : b.table ≡ a.table
  pub input : b.input ≡ a.input
  pub states : b.counted.states ≡ a.counted.states

-- What a function knows of a search that only goes on: the slots as it began, the registers, whether something was found,
-- and the slots now.
pub record Held : Type 0 where
  pub before : List (Option ℕ)
  pub registers : List (Option ℕ)
  pub is_found : Bool
  pub slots : List (Option ℕ)

-- the search stands there
abbrev pub StandsAt : Search → List (Option ℕ) → Standing → List (Option ℕ) → Bool → List (Option ℕ) → Type 0
StandsAt a before at registers is_found slots = IsAtRow (asked a before) at.place at.row registers is_found slots a.counted.walked

-- A search for so many slots can go on from where it stands: these are as many as it keeps, and the registers are rows of as
-- many.
pub record CanGoOn (a : Search) (width : ℕ) (before : List (Option ℕ)) (at : Standing) (registers : List (Option ℕ)) (is_found : Bool) (left : List (Option ℕ)) : Type 0 where
  pub is_asked : IsAsked (asked a before)
  pub stands : StandsAt a before at registers is_found left
  pub width_is : width ≡ length before
  pub room : with_spare * width ≤ length registers
  pub slots : length left ≡ width

-- it can, by the bits of that width
pub record CanGoOnBy (a : Search) (w : Width) (before : List (Option ℕ)) (at : Standing) (registers : List (Option ℕ)) (is_found : Bool) (left : List (Option ℕ)) : Type 0 where
  pub bits : HasBits a w
  pub on : CanGoOn a w.slots before at registers is_found left

-- it can, with what is held of it
abbrev pub CanGoOnWith : Search → Width → Standing → Held → Type 0
CanGoOnWith a w at h = CanGoOnBy a w h.before at h.registers h.is_found h.slots

-- it can, whatever was found
abbrev pub CanPass : Search → Width → List (Option ℕ) → Standing → List (Option ℕ) → Type 0
CanPass a w before at registers = (is_found : Bool) × (left : List (Option ℕ)) × CanGoOnBy a w before at registers is_found left

-- it did: it stands further on, and nothing more was found
abbrev pub HasPassed : Search → Search → Width → List (Option ℕ) → Standing → List (Option ℕ) → List (Option ℕ) → Standing → Type 0
HasPassed a b w before at registers new to =
    at.place < to.place × ((is_found : Bool) (left : List (Option ℕ)) → CanGoOnBy a w before at registers is_found left → StandsAt b before to new is_found left)

-- it can begin, and nothing was visited yet
pub record CanBegin (a : Search) (before : List (Option ℕ)) (registers : List (Option ℕ)) (left : List (Option ℕ)) : Type 0 where
  pub is_asked : IsAsked (asked a before)
  pub begun : left ≡ before
  pub room : with_spare * length left ≤ length registers
  pub visits : a.counted.walked.visits ≡ []
  pub looks : a.counted.walked.looks ≡ 0

-- the Pike VM can go on with it for so many slots, in a cache with this room
pub record CanWalk (a : Search) (room : Fit) (width : ℕ) : Type 0 where
  pub states : states_of a.counted.states.now ≡ a.program.now.program.states
  pub fits : HasRoomFor room a.program.now.program width

-- what is held of a search that stands there
pub record IsHeldAt (a : Search) (at : Standing) (h : Held) : Type 0 where
  pub is_asked : IsAsked (asked a h.before)
  pub stands : StandsAt a h.before at h.registers h.is_found h.slots

-- a transition of the list over the class was lent, whose cell has none of these bits
pub record IsLent (a b : Search) (n c : ℕ) (unless place : ℕ) (l : Lent) : Type 0 where
  pub cell : Cell
  pub tells : Tells a.table.now n c cell
  pub bits : bit_and cell.doing unless ≡ 0
  pub next : l.next ≡ cell.next
  pub act : l.act ≡ cell.act
  pub begins : l.begins ≡ cell.begins
  pub walked : b.counted.walked ≡ after_place (reverse cell.seen.value.items) cell.looks.value place a.counted.walked

-- who comes to a match in what has this number
abbrev pub hit_of : Packed → ℕ → Option (Thread Source)
hit_of x act = option_map frame_of (option_flatten (option_map (λ a. a.hit) (slice_get x.acts act)))

-- The slots of a match that a transition comes to, which ends one byte before a place. With two slots it begins where the row of a register
-- does.
abbrev pub hit_slots : Packed → (width : ℕ) → List (Option ℕ) → Lent → (place : ℕ) → List (Option ℕ)
hit_slots x width registers l place =
    if width == 2 then slice_index_or registers (l.begins * 2) None ∷ Some (place - 1) ∷ [] else slots_after width (place - 1) registers (hit_of x l.act) []

-- the row of such a match comes from a register that is there
pub record IsHitThere (x : Packed) (width : ℕ) (l : Lent) : Type 0 where
  pub register : width ≡ 2 → l.begins < with_spare
  pub act : width ≢ 2 → (a : Act) × (slice_get x.acts l.act ≡ Some a) × IsSomeAnd a.hit IsHeldFrame

-- a transition over so many bytes was lent over which somebody comes to a match, and the rows are kept
pub record HitsAt (b : Search) (w : Width) (h : Held) (at : Standing) (len : ℕ) (l : Lent) : Type 0 where
  pub there : IsHitThere w.table.now w.slots l
  pub stands : StandsAt b h.before (record { place = at.place + len; row = l.next }) h.registers true
      (hit_slots w.table.now w.slots h.registers l (at.place + 1))

-- a transition of the list over the class visits nothing that was visited, if it is known
abbrev pub IsFresh : Search → ℕ → ℕ → ℕ → Type 0
IsFresh a n c place = (t : Transition ℕ) → (table_in a.table.now).transition n c ≡ Some t → AllApart (after_place t.seen t.looks place a.counted.walked).visits

-- a transition over the class, if it is known, is over what stands at the place, which has so many bytes
abbrev pub IsOverPiece : Asked → (place class len : ℕ) → Type 0
IsOverPiece s place class len = (n : ℕ) (t : Transition ℕ) → (table_in s.table).transition n class ≡ Some t → (transition_from s n place ≡ Some t) × ((piece s.input.hay place).len ≡ len)

-- the class of a piece is one of the table, it ends at a place that a slot can hold, and transitions over the class are over the piece
pub record IsPieceAt (a : Search) (before : List (Option ℕ)) (place class len : ℕ) : Type 0 where
  pub known : class < stride a.table.now
  pub within : place + len < no_slot
  pub over : IsOverPiece (asked a before) place class len

-- what stands at a place is read as this class of the table and so many bytes, which end within the haystack
pub record IsReadAs (x : Packed) (hay : List ℕ) (place class len : ℕ) : Type 0 where
  pub class_is : class ≡ (classes_in x).class_of (next_character hay place)
  pub known : class < stride x
  pub length_is : len ≡ (piece hay place).len
  pub within : place + len ≤ length hay

-- a table serves such a search of so many slots, in a cache with this room
pub record Serves (p : Program) (x : Packed) (i : Input) (room : Fit) (width : ℕ) : Type 0 where
  pub fits : HasRoomFor room p width
  pub slots : IsSlotCount p width
  pub table : IsTableOf p x
  pub within : i.start ≤ length i.haystack.now
  pub served : IsServed x (is_longest i.kind) i.anchored

-- what comes after a place
abbrev pub TurnsTo : Search → List (Option ℕ) → Standing → List (Option ℕ) → Bool → List (Option ℕ) → Turn → Type 0
TurnsTo a before at registers was_found slots (Goes to is_found) = StandsAt a before to registers is_found slots × (at.place < to.place)
TurnsTo a before at registers was_found slots (Ends is_found) = IsOver (asked a before) is_found slots a.counted.walked
TurnsTo a before at registers was_found slots Leaves = StandsAt a before at registers was_found slots

-- how a part of the search stops: at a place, or where the search is over
abbrev pub StopsSo : Search → List (Option ℕ) → List (Option ℕ) → List (Option ℕ) → Bool → Option Standing → Type 0
StopsSo a before registers slots is_found None = IsOver (asked a before) is_found slots a.counted.walked
StopsSo a before registers slots is_found (Some at) = StandsAt a before at registers is_found slots

-- the search is over, or comes back to the list of this number
abbrev pub ResumesTo : Search → List (Option ℕ) → List (Option ℕ) → List (Option ℕ) → Bool → Option (Standing × ℕ) → Type 0
ResumesTo a before registers slots is_found None = IsOver (asked a before) is_found slots a.counted.walked
ResumesTo a before registers slots is_found (Some r) =
    (r.0.row ≡ row_of a.table.now r.1) × (r.1 < lists_in a.table.now) × IsHeldAt a r.0 (record { before = before; registers = registers; is_found = is_found; slots = slots })
