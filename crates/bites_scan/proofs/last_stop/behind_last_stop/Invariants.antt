use Rattle.std.proofs.Common.{◌-◌, ◌≤◌}
use Rattle.bites_scan.specs.Stops.{NoneStops}
use Rattle.bites_scan.proofs.last_stop.behind_last_stop.Given as goal

abbrev pub invariant-vectors : goal.invariant-vectors
invariant-vectors g l = (l.start ≤ l.at) × (l.at ≤ l.end) × NoneStops (g.S.Stops.stops l.set) l.haystack l.at l.end

abbrev pub decreases-vectors : goal.decreases-vectors
decreases-vectors g l = l.at - l.start

abbrev pub invariant-bytes : goal.invariant-bytes
invariant-bytes g l = (l.start ≤ l.at) × (l.at ≤ l.end) × NoneStops (g.S.Stops.stops l.set) l.haystack l.at l.end

abbrev pub decreases-bytes : goal.decreases-bytes
decreases-bytes g l = l.at - l.start
