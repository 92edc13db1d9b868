use Rattle.std.proofs.Common.{◌-◌, ◌≤◌, length}
use Rattle.bites_scan.specs.LiteralSet.{SomeOccursAt}
use Rattle.bites_scan.specs.Offsets.{NoneOccurs}
use Rattle.bites_scan.proofs.literal_set.LiteralSet.search_rest.Given as goal

abbrev pub invariant-narrow : goal.invariant-narrow
invariant-narrow l = record { onward : l.from ≤ l.at; within : l.at ≤ length l.haystack; none : NoneOccurs (SomeOccursAt l.self l.haystack) l.from l.at }

abbrev pub decreases-narrow : goal.decreases-narrow
decreases-narrow l = length l.haystack - l.at
