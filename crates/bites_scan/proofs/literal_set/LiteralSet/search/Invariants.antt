use Rattle.std.proofs.Common.{◌-◌, ◌≤◌, length}
use Rattle.bites_scan.specs.LiteralSet.{SomeOccursAt}
use Rattle.bites_scan.specs.Offsets.{NoneOccurs}
use Rattle.bites_scan.proofs.literal_set.LiteralSet.search.Given as goal

abbrev pub invariant-wide : goal.invariant-wide
invariant-wide l = record { onward : l.from ≤ l.at; within : l.at ≤ length l.haystack; none : NoneOccurs (SomeOccursAt l.self l.haystack) l.from l.at }

abbrev pub decreases-wide : goal.decreases-wide
decreases-wide l = length l.haystack - l.at
