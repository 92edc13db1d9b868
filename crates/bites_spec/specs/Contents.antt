-- What contracts see of a program: its states, and what is known of its pattern.
use Rattle.std.specs.Prelude.{ℕ, List, Option, None, []}
use Rattle.bites_spec.specs.Program.{Program}

pub record Contents : Type 0 where
  pub program : Program
  -- the bytes of the pattern
  pub pattern : List ℕ
  -- the name of each group, from group 0 on, if it has one
  pub names : List (Option (List ℕ))
  -- how many groups participate in every match, if known; group 0 counts
  pub static_captures_len : Option ℕ

-- the contents of a program that is made of states alone
abbrev pub contents_of_states : Program → Contents
contents_of_states p = record { program = p; pattern = []; names = []; static_captures_len = None }
