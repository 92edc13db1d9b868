-- What is in a program of these parts.
use Rattle.std.specs.Prelude.{ℕ, List, Option, String, string_bytes}
use Rattle.bites_spec.specs.Contents.{Contents}
use Rattle.bites_machine.specs.States.{program_of}
use Rattle.bites_machine.specs.declared.state.State.{State}

-- what is in a program of these states, with this start, slots, pattern, names of groups and static number
abbrev pub contents_by : {Z : Type 0} → List State → ℕ → ℕ → String Z → List (Option (List ℕ)) → Option ℕ → Contents
contents_by states start slots pattern names static_captures_len = record {
  program = program_of states start slots;
  pattern = string_bytes pattern;
  names = names;
  static_captures_len = static_captures_len;
}

-- these contents with another pattern
abbrev pub patterned : List ℕ → Contents → Contents
patterned pattern c = record {
  program = c.program;
  pattern = pattern;
  names = c.names;
  static_captures_len = c.static_captures_len;
}
