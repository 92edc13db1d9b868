use Rattle.std.proofs.Common.{◌+◌, ◌-◌, ◌≤◌, length}
use Rattle.bites_scan.specs.LiteralSet.{SomeOccursAt}
use Rattle.bites_scan.specs.Offsets.{NoneOccurs}
use Rattle.bites_scan.proofs.literal_set.LiteralSet.search_by_one.Given as goal

abbrev pub invariant-offsets : goal.invariant-offsets
invariant-offsets l = record { onward : l.from ≤ l.at; none : NoneOccurs (SomeOccursAt l.self l.haystack) l.from l.at }

abbrev pub decreases-offsets : goal.decreases-offsets
decreases-offsets l = length l.haystack + 1 - l.at
