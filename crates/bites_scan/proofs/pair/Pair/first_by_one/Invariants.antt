use Rattle.std.proofs.Common.{◌-◌, ◌≤◌}
use Rattle.bites_scan.specs.Literal.{OccursAt}
use Rattle.bites_scan.specs.Offsets.{NoneOccurs}
use Rattle.bites_scan.proofs.pair.Pair.first_by_one.Given as goal

abbrev pub invariant-offsets : goal.invariant-offsets
invariant-offsets g l = record {
  onward : l.start ≤ l.at;
  within : l.at ≤ l.end;
  none : NoneOccurs (OccursAt g.F.Folding.fold l.haystack l.self.needle.now) l.start l.at;
}

abbrev pub decreases-offsets : goal.decreases-offsets
decreases-offsets g l = l.end - l.at
