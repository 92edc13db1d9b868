-- The contents of a program by its fields.
use Rattle.std.specs.Prelude.{◌≡◌, IsTrue, is_none}
use Rattle.bites_spec.specs.Program.{targets}
use Rattle.bites_spec.specs.ProgramFaults.{first_fault}
use Rattle.bites_machine.specs.States.{program_of}
use Rattle.bites_spec.specs.Contents.{Contents}
use Rattle.bites_machine.specs.Contents.{contents_by}
use Rattle.bites_machine.specs.declared.program.Program.TheInside.{Inside}

abbrev pub contents_of : Inside → Contents
contents_of a = contents_by a.states.items a.start a.slots a.pattern a.names a.static_captures_len

-- the program has no fault, and its edges are counted
abbrev pub IsSound : Inside → Type 0
IsSound a =
    IsTrue (is_none (first_fault (program_of a.states.items a.start a.slots)))
    × (a.targets ≡ targets (program_of a.states.items a.start a.slots))
