use Rattle.std.proofs.Common.{length, ◌-◌, ◌+◌, ◌≤◌}
use Rattle.bites_scan.specs.Stops.{NoneStops}
use Rattle.bites_scan.proofs.first_stop.first_stop.Given as goal

abbrev pub invariant-wide : goal.invariant-wide
invariant-wide g l = (l.from + 16 ≤ l.at) × (l.at ≤ length l.haystack) × NoneStops (g.S.Stops.stops l.set) l.haystack l.from l.at

abbrev pub decreases-wide : goal.decreases-wide
decreases-wide g l = length l.haystack - l.at

abbrev pub invariant-narrow : goal.invariant-narrow
invariant-narrow g l = (l.from + 16 ≤ l.at) × (l.at ≤ length l.haystack) × NoneStops (g.S.Stops.stops l.set) l.haystack l.from l.at

abbrev pub decreases-narrow : goal.decreases-narrow
decreases-narrow g l = length l.haystack - l.at
