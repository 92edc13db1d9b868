use Rattle.bites_scan.specs.Known.{AreAsLong}
use Rattle.bites_scan.proofs.literal_set.least_len.Given as goal

abbrev pub invariant-loop-index : goal.invariant-loop-index
invariant-loop-index l = AreAsLong l.literals l.index l.least
