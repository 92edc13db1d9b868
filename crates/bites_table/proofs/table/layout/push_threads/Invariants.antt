use Rattle.std.proofs.Common.{◌≡◌, ◌++◌, map, take}
use Rattle.bites_table.specs.Steps.{most_registers}
use Rattle.bites_table.specs.LaidOut.{register_thread, AreHeldBelow}
use Rattle.bites_table.proofs.table.layout.push_threads.Given as goal

abbrev pub invariant-loop-thread : goal.invariant-loop-thread
invariant-loop-thread l = record {
  threads : l.all.items ≡ l.fn.all.items ++ map register_thread (take l.thread-index l.threads);
  held : AreHeldBelow most_registers l.fn.all.items → AreHeldBelow most_registers l.all.items;
}
