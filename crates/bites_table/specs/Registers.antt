-- Threads that were given registers.
use Rattle.std.specs.Prelude.{◌≡◌, ◌<◌, List, ◌++◌, map, length}
use Rattle.bites_spec.specs.Walks.{Among}
use Rattle.bites_table.specs.Sources as sources
use Rattle.bites_table.specs.Sources.{on_row}
use Rattle.bites_table.specs.Transition.{source_at}
use Rattle.bites_table.specs.Built.{source_of, thread_as}
use Rattle.bites_table.specs.declared.thread_list.Thread.{Thread}
use Rattle.bites_table.specs.declared.thread_list.Source.{Source}
use Rattle.bites_table.specs.declared.registers.Assigned.{Assigned}

-- the threads stand for these, whichever moves come after those of their registers, and their registers have moves
pub record AreAssigned (a : Assigned) (ts : List (sources.Thread sources.Source)) : Type 0 where
  pub threads : (more : List Source) → map (on_row (source_at (map source_of (a.moves.items ++ more)))) (map thread_as a.threads.items) ≡ ts
  pub held : (t : Thread) → Among a.threads.items t → t.register < length a.moves.items
