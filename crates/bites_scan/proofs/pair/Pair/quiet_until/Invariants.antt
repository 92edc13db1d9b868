use Rattle.std.proofs.Common.{◌-◌, ◌≤◌}
use Rattle.bites_scan.specs.Literal.{OccursAt}
use Rattle.bites_scan.specs.Offsets.{NoneOccurs}
use Rattle.bites_scan.proofs.pair.Pair.quiet_until.Given as goal

abbrev pub invariant-wide : goal.invariant-wide
invariant-wide g l = record { onward : l.from ≤ l.at; within : l.at ≤ l.end; none : NoneOccurs (OccursAt g.F.Folding.fold l.haystack l.self.needle.now) l.from l.at }

abbrev pub decreases-wide : goal.decreases-wide
decreases-wide g l = l.end - l.at
