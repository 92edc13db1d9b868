use Rattle.std.proofs.Common.{length, ◌-◌, ◌≤◌}
use Rattle.bites_scan.specs.Stops.{NoneStops}
use Rattle.bites_scan.proofs.first_stop.first_by_one.Given as goal

abbrev pub invariant-bytes : goal.invariant-bytes
invariant-bytes g l = (l.from ≤ l.at) × (l.at ≤ length l.haystack) × NoneStops (g.S.Stops.stops l.set) l.haystack l.from l.at

abbrev pub decreases-bytes : goal.decreases-bytes
decreases-bytes g l = length l.haystack - l.at
