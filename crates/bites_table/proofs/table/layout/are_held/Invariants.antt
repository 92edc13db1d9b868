use Rattle.std.proofs.Common.{take}
use Rattle.bites_table.specs.Graph.{AreHeld}
use Rattle.bites_table.proofs.table.layout.are_held.Given as goal

abbrev pub invariant-loop-thread : goal.invariant-loop-thread
invariant-loop-thread l = AreHeld l.registers (take l.thread-index l.threads)
