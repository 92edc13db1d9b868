use Rattle.bites_scan.specs.Known.{AreKnown}
use Rattle.bites_scan.proofs.literal_set.LiteralSet.new.Given as goal

abbrev pub invariant-loop-number : goal.invariant-loop-number
invariant-loop-number l = AreKnown l.literals.items l.number l.fingerprints l.shortlist
