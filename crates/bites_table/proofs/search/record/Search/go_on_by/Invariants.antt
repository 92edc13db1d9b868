use Rattle.std.proofs.Common.{◌-◌, length}
use Rattle.bites_table.specs.Searches.{IsSame, StandsAt}
use Rattle.bites_table.proofs.search.record.Search.go_on_by.Given as goal

abbrev pub ghost-pass_quietly : goal.ghost-pass_quietly
ghost-pass_quietly g a = g.before

abbrev pub ghost-advance : goal.ghost-advance
ghost-advance g a = g.before

abbrev pub invariant-places : goal.invariant-places
invariant-places g l = record {
  same : IsSame l.fn.self l.self;
  stands : StandsAt l.self g.before l.here l.registers l.is_found l.slots;
}

abbrev pub decreases-places : goal.decreases-places
decreases-places g l = length l.self.input.now.haystack.now - l.here.place
