-- The faults of states that are meant to be a program.
use Rattle.std.specs.Prelude.{◌≡◌, ◌≤◌, ◌^◌, ℕ, List, Option, Some, None, codes}
use Rattle.bites_spec.specs.Program.{Program, targets}
use Rattle.bites_spec.specs.ProgramFaults as faults
use Rattle.bites_spec.specs.ProgramFaults.{ProgramFault, first_fault}
use Rattle.bites_machine.specs.declared.fault.BadProgram.{BadProgram}
use Rattle.bites_machine.specs.declared.fault.BadProgram.TheVariants.{TooMany, BadSlot, BadStart, BadTarget, BadRanges, Memory}

-- this is the fault that was found
abbrev pub IsFault : Option ProgramFault → BadProgram → Type 0
IsFault fault TooMany = fault ≡ Some faults.too_many
IsFault fault BadSlot = fault ≡ Some faults.bad_slot
IsFault fault BadStart = fault ≡ Some faults.bad_start
IsFault fault BadTarget = fault ≡ Some faults.bad_target
IsFault fault BadRanges = fault ≡ Some faults.bad_ranges
IsFault fault Memory = ⊥

-- when an error is returned: the first fault, or Memory if there is none and the edges are too many for a usize
abbrev pub IsBad : Program → BadProgram → Type 0
IsBad p Memory = (first_fault p ≡ None) × (2 ^ 64 ≤ targets p)
IsBad p fault = IsFault (first_fault p) fault

-- the text of a fault
abbrev pub fault_text : BadProgram → List ℕ
fault_text TooMany = codes "too many states"
fault_text BadSlot = codes "a slot is out of range"
fault_text BadStart = codes "the start is no state"
fault_text BadTarget = codes "a target is no state"
fault_text BadRanges = codes "ranges are out of order"
fault_text Memory = codes "out of memory"
