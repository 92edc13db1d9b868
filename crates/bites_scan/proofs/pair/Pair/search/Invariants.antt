use Rattle.std.proofs.Common.{◌≡◌, ◌+◌, ◌-◌, ◌≤◌, length}
use Rattle.bites_scan.specs.Literal.{OccursAt}
use Rattle.bites_scan.specs.Offsets.{NoneOccurs}
use Rattle.bites_scan.proofs.pair.Pair.search.Given as goal

abbrev pub invariant-wide : goal.invariant-wide
invariant-wide g l = record {
  room : l.end + length l.self.needle.now ≡ length l.haystack + 1;
  onward : l.from ≤ l.at;
  within : l.at ≤ l.end;
  none : NoneOccurs (OccursAt g.F.Folding.fold l.haystack l.self.needle.now) l.from l.at;
}

abbrev pub decreases-wide : goal.decreases-wide
decreases-wide g l = l.end - l.at
