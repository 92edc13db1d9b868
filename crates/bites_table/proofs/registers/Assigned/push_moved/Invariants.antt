use Rattle.std.proofs.Common.{◌++◌, List, map, take}
use Rattle.bites_table.specs.Sources as sources
use Rattle.bites_table.proofs.Words.{on_row, source_at, source_of, thread_as, AreAssigned}
use Rattle.bites_table.proofs.registers.Assigned.push_moved.Given as goal

abbrev pub invariant-loop-thread : goal.invariant-loop-thread
invariant-loop-thread l = (ts : List (sources.Thread sources.Source)) → AreAssigned l.initial.self ts →
    AreAssigned l.self (ts ++ map (on_row (source_at (map source_of l.moves))) (map thread_as (take l.thread-index l.threads)))
