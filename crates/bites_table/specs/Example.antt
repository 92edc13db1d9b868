-- A whole table, for the pattern a and the slots of its match, and transitions that are none of it.
use Rattle.std.specs.Prelude.{◌≡◌, ℕ, zero, suc, Bool, true, false, [], ◌∷◌, Option, Some, None, if◌then◌else◌, ◌==◌}
use Rattle.bites_spec.specs.Program.{Program, char, capture, match}
use Rattle.bites_table.specs.Kinds.{other, leads_by, Classes, AreClasses}
use Rattle.bites_table.specs.Sources.{unwritten, row_of_register, write}
use Rattle.bites_table.specs.Transition.{everywhere, here, nowhere, ThreadList, Transition, IsTransition}
use Rattle.bites_table.specs.Table.{Table, IsTable, TableSearch, Input, Ended}

abbrev pub program : Program
program = record { states = capture 1 0 ∷ char 2 97 ∷ capture 3 1 ∷ match ∷ []; start = 0; slots = 2 }

-- the class of the letter, that of all other characters, and that of the end
abbrev pub class_of : Option ℕ → ℕ
class_of None = 2
class_of (Some c) = if c == 97 then 0 else 1

abbrev pub member : ℕ → Option ℕ
member zero = Some 97
member (suc zero) = Some 98
member (suc (suc n)) = None

abbrev pub classes : Classes
classes = record { class_of = class_of; member = member; len = 3 }

-- no thread; and a thread after the letter, with register 0
abbrev pub idle_list : ThreadList
idle_list = record { threads = []; starts = everywhere; kind = other }

abbrev pub letter_list : ThreadList
letter_list = record { threads = record { state = 2; row = 0 } ∷ []; starts = everywhere; kind = other }

-- no thread, and none begins
abbrev pub dead_list : ThreadList
dead_list = record { threads = []; starts = nowhere; kind = other }

-- the same from one place alone: where the search begins, and after the letter
abbrev pub anchored_list : ThreadList
anchored_list = record { threads = []; starts = here; kind = other }

abbrev pub anchored_letter_list : ThreadList
anchored_letter_list = record { threads = record { state = 2; row = 0 } ∷ []; starts = nowhere; kind = other }

-- the transition over the letter writes slot 0 of a new row
abbrev pub over_letter : {N : Type 0} → N → Transition N
over_letter n = record { next = n; moves = write 0 unwritten ∷ []; hit = None; seen = 1 ∷ 0 ∷ []; looks = 2 }

abbrev pub over_other : {N : Type 0} → N → Transition N
over_other n = record { next = n; moves = []; hit = None; seen = 1 ∷ 0 ∷ []; looks = 2 }

-- after the letter the thread writes slot 1 of the row of register 0, and comes to the match
abbrev pub to_match : {N : Type 0} → N → Transition N
to_match n = record { next = n; moves = []; hit = Some (record { state = 3; row = write 1 (row_of_register 0) }); seen = 3 ∷ 2 ∷ []; looks = 2 }

abbrev pub transition : ℕ → ℕ → Option (Transition ℕ)
transition zero zero = Some (over_letter 1)
transition zero (suc c) = Some (over_other 0)
transition (suc zero) c = Some (to_match 2)
transition (suc (suc zero)) c = None
transition (suc (suc (suc zero))) zero = Some (over_letter 4)
transition (suc (suc (suc zero))) (suc c) = Some (over_other 2)
transition (suc (suc (suc (suc zero)))) c = Some (to_match 2)
transition (suc (suc (suc (suc (suc n))))) c = None

abbrev pub table : Table
table = record { lists = idle_list ∷ letter_list ∷ dead_list ∷ anchored_list ∷ anchored_letter_list ∷ []; transition = transition }

-- it is a table
abbrev pub ExampleIsTable : Type 0
ExampleIsTable = AreClasses program classes × IsTable program classes table

-- a search of xa
abbrev pub input : ℕ → Bool → Input
input start anchored = record { hay = 120 ∷ 97 ∷ []; start = start; width = 2; anchored = anchored; longest = false; earliest = false }

-- a search by the table from 0 on, and one at 1 alone, end as those of the Pike VM, with the letter's place in the slots
abbrev pub EndsAtLetter : ℕ → Bool → Type 0
EndsAtLetter start anchored =
    (b : TableSearch) × Ended program (input start anchored) b × (b.best ≡ Some (record { state = 3; start = 0; slots = Some 1 ∷ Some 2 ∷ [] }))

abbrev pub ExampleEnds : Type 0
ExampleEnds = EndsAtLetter 0 false × EndsAtLetter 1 true

-- it is no transition over this character
abbrev pub Refuses : ThreadList → ℕ → Transition ThreadList → Type 0
Refuses l c t = IsTransition program (leads_by other (Some c)) l t → ⊥

-- A transition is refused if a register's move is left out, the thread goes to another state, the character is of another class, a
-- match is forgotten, the start is walked after a match, a write before the match is lost, a visited state is left out, or one look
-- is.
abbrev pub TransitionsRefuse : Type 0
TransitionsRefuse =
    Refuses idle_list 97 (record { next = letter_list; moves = []; hit = None; seen = 1 ∷ 0 ∷ []; looks = 2 })
    × Refuses idle_list 97 (record { next = record { threads = record { state = 3; row = 0 } ∷ []; starts = everywhere; kind = other }; moves = write 0 unwritten ∷ []; hit = None; seen = 1 ∷ 0 ∷ []; looks = 2 })
    × Refuses idle_list 98 (over_letter letter_list)
    × Refuses letter_list 97 (record { next = idle_list; moves = []; hit = None; seen = 3 ∷ 2 ∷ []; looks = 2 })
    × Refuses letter_list 97 (to_match idle_list)
    × Refuses letter_list 97 (record { next = dead_list; moves = []; hit = Some (record { state = 3; row = row_of_register 0 }); seen = 3 ∷ 2 ∷ []; looks = 2 })
    × Refuses idle_list 97 (record { next = letter_list; moves = write 0 unwritten ∷ []; hit = None; seen = 0 ∷ []; looks = 2 })
    × Refuses idle_list 97 (record { next = letter_list; moves = write 0 unwritten ∷ []; hit = None; seen = 1 ∷ 0 ∷ []; looks = 1 })
