use Rattle.bites_machine.proofs.Library.{◌≡◌, drop, are_ranges}
use Rattle.bites_machine.proofs.compile.BadLemmas.{ranges_after}
use Rattle.bites_machine.proofs.fault.are_ranges.Given as goal

abbrev pub invariant-loop-start : goal.invariant-loop-start
invariant-loop-start l = are_ranges l.ranges ≡ ranges_after l.last (drop l.start-index l.ranges)
