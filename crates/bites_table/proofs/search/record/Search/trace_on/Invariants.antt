use Rattle.std.proofs.Common.{◌-◌, length, reverse}
use Rattle.bites_table.proofs.Words.{asked, IsSame, StandsAt, LeadTo}
use Rattle.bites_table.proofs.search.record.Search.trace_on.Given as goal

abbrev pub ghost-turn : goal.ghost-turn
ghost-turn g a = g.before

abbrev pub invariant-places : goal.invariant-places
invariant-places g l = record {
  same : IsSame l.fn.self l.self;
  stands : StandsAt l.self g.before l.at l.registers l.is_found l.slots;
  lead : LeadTo (asked l.fn.self g.before) (reverse l.stretches.items) l.at.place;
}

abbrev pub decreases-places : goal.decreases-places
decreases-places g l = length l.self.input.now.haystack.now - l.at.place
