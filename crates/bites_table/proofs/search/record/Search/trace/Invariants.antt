use Rattle.std.proofs.Common.{◌≡◌, ◌<◌, ◌-◌, reverse}
use Rattle.bites_table.proofs.Words.{asked, IsSame, StandsAt, LeadTo}
use Rattle.bites_table.proofs.search.record.Search.trace.Given as goal

abbrev pub ghost-trace_on : goal.ghost-trace_on
ghost-trace_on g a = g.before

abbrev pub ghost-trace_walked : goal.ghost-trace_walked
ghost-trace_walked g a = g.before

abbrev pub invariant-leaves : goal.invariant-leaves
invariant-leaves g l = record {
  same : IsSame l.fn.self l.self;
  stands : StandsAt l.self g.before l.at l.registers l.is_found l.slots;
  few : l.leaves < 32;
  fits : l.cache.fits ≡ l.fn.cache.fits;
  searches : l.cache.searches ≡ l.fn.cache.searches;
  lead : LeadTo (asked l.fn.self g.before) (reverse l.stretches.items) l.at.place;
}

abbrev pub decreases-leaves : goal.decreases-leaves
decreases-leaves g l = 32 - l.leaves
