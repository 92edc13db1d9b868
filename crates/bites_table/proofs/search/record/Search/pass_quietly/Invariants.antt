use Rattle.std.proofs.Common.{◌≤◌, ◌-◌, Bool, List, Option, ℕ, length}
use Rattle.bites_table.specs.Searches.{CanGoOnBy, IsSame, StandsAt}
use Rattle.bites_table.proofs.search.record.Search.pass_quietly.Given as goal

abbrev pub ghost-pass_one : goal.ghost-pass_one
ghost-pass_one g a = g.before

abbrev pub invariant-bytes : goal.invariant-bytes
invariant-bytes g l = record {
  same : IsSame l.fn.self l.self;
  stands : (f : Bool) (r : List (Option ℕ)) → CanGoOnBy l.fn.self l.width g.before l.fn.from l.fn.registers f r → StandsAt l.self g.before l.at l.registers f r;
  onward : l.fn.from.place ≤ l.at.place;
}

abbrev pub decreases-bytes : goal.decreases-bytes
decreases-bytes g l = length l.self.input.now.haystack.now - l.at.place
