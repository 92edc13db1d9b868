-- The threads of a place.
use Rattle.std.specs.Prelude.{ℕ, List}
use Rattle.bites_machine.specs.declared.vm.threads.Thread.{Thread}

-- the threads in order of preference, and how many there may be
pub record Listed : Type 0 where
  pub threads : List Thread
  pub room : ℕ

-- the list with these threads
abbrev pub with_threads : List Thread → Listed → Listed
with_threads threads list = record { threads = threads; room = list.room }
