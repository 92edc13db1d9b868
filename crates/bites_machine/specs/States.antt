-- The states of a program.
use Rattle.std.specs.Prelude.{ℕ, List, map, option_map}
use Rattle.bites_spec.specs.Program as program
use Rattle.bites_syntax.specs.View.{look_of}
use Rattle.bites_machine.specs.declared.state.State.{State}
use Rattle.bites_machine.specs.declared.state.State.TheVariants.{Char, Ranges, Splits, Goto, Capture, Fail, Match}

-- the state of the specification that a state represents
abbrev pub state_of : State → program.State
state_of (Char target ch) = program.char target ch
state_of (Ranges target ranges) = program.ranges target ranges
state_of (Splits targets reverse) = program.splits targets reverse
state_of (Goto target look) = program.goto target (option_map look_of look)
state_of (Capture target slot) = program.capture target slot
state_of Fail = program.fail
state_of Match = program.match

-- the states of the specification that states represent
abbrev pub states_of : List State → List program.State
states_of states = map state_of states

-- a program of these states
abbrev pub program_of : List State → ℕ → ℕ → program.Program
program_of states start slots = record { states = states_of states; start = start; slots = slots }
