use Rattle.std.proofs.Common.{◌≡◌, ◌<◌, ◌-◌}
use Rattle.bites_table.specs.Searches.{IsSame, StandsAt}
use Rattle.bites_table.proofs.search.record.Search.run.Given as goal

abbrev pub ghost-go_on : goal.ghost-go_on
ghost-go_on g a = g.before

abbrev pub ghost-leave : goal.ghost-leave
ghost-leave g a = g.before

abbrev pub invariant-leaves : goal.invariant-leaves
invariant-leaves g l = record {
  same : IsSame l.fn.self l.self;
  stands : StandsAt l.self g.before l.at l.registers l.is_found l.slots;
  few : l.leaves < 32;
  fits : l.cache.fits ≡ l.fn.cache.fits;
  searches : l.cache.searches ≡ l.fn.cache.searches;
}

abbrev pub decreases-leaves : goal.decreases-leaves
decreases-leaves g l = 32 - l.leaves
