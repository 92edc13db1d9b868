use Rattle.std.proofs.Common.{◌≡◌, map, take}
use Rattle.bites_table.proofs.Words.{Classes, taken, frame_of, AreAssigned, AreTaken}
use Rattle.bites_table.proofs.registers.Assigned.assign.Given as goal

abbrev pub invariant-loop-taker : goal.invariant-loop-taker
invariant-loop-taker l = (k : Classes) → AreTaken l.program.program k l.bits → k.member l.class ≡ l.ch →
    AreAssigned l.self (taken l.program.program l.ch (map frame_of (take l.taker-index l.takers)))
