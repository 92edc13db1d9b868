use Rattle.std.proofs.Common.{◌-◌, ◌≤◌}
use Rattle.bites_scan.specs.Literal.{OccursAt}
use Rattle.bites_scan.specs.Offsets.{NoneOccurs}
use Rattle.bites_scan.proofs.pair.Pair.search_rest.Given as goal

abbrev pub invariant-narrow : goal.invariant-narrow
invariant-narrow g l = record {
  onward : l.start ≤ l.at;
  within : l.at ≤ l.end;
  none : NoneOccurs (OccursAt g.F.Folding.fold l.haystack l.self.needle.now) l.start l.at;
}

abbrev pub decreases-narrow : goal.decreases-narrow
decreases-narrow g l = l.end - l.at
