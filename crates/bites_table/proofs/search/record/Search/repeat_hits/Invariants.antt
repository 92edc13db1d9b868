use Rattle.std.proofs.Common.{◌≤◌, ◌-◌, true, length}
use Rattle.bites_table.specs.Searches.{IsSame, IsHitThere, StandsAt, hit_slots}
use Rattle.bites_table.proofs.search.record.Search.repeat_hits.Given as goal

abbrev pub invariant-bytes : goal.invariant-bytes
invariant-bytes g l = record {
  same : IsSame l.fn.self l.self;
  there : IsHitThere l.width.table.now l.width.slots l.hit;
  stands : StandsAt l.self g.before l.at l.registers true (hit_slots l.width.table.now l.width.slots l.registers l.hit l.at.place);
  onward : l.fn.from.place ≤ l.at.place;
}

abbrev pub decreases-bytes : goal.decreases-bytes
decreases-bytes g l = length l.self.input.now.haystack.now - l.at.place
