use Rattle.std.proofs.Common.{false, rules, refl}
use Rattle.bites_table.specs.Searches.{IsHeldAt}
use Rattle.bites_table.proofs.SearchesLemmas.{begins_at}
use Rattle.bites_table.proofs.search.record.Search.run.Goals as goal
use Rattle.bites_table.proofs.search.record.Search.run.Goals.{After-settle-arg-1}
use Rattle.bites_table.proofs.search.record.Search.run.Given.{Over}

-- the list where the search begins
begun : (g : Over) (c : After-settle-arg-1 g) → IsHeldAt c.args.self.now c.root-number.result.0 (record { before = g.before; registers = c.args.registers.now; is_found = false; slots = g.before })
begun g c =
    begins_at _ g.before c.requires.0.is_asked _ _ _ c.root-number.ensures.place c.root-number.ensures.row c.root-number.ensures.number c.root-number.ensures.within c.requires.0.visits c.requires.0.looks

pub settle-requires-clause-stands : goal.settle-requires-clause-stands
settle-requires-clause-stands g c = (_, begun g c)

pub leaves-init : goal.leaves-init
leaves-init g c = record {
  same = c.settle.ensures.same;
  stands = rw c.requires.0.begun (c.in-Some.ensures.stands _ (begun g (goal.at.leaves-init g c).After-settle-arg-1)).stands;
  few = search rules;
  fits = refl;
  searches = refl;
}

pub returns-in_default-clause-over : goal.returns-in_default-clause-over
returns-in_default-clause-over g c = rw c.requires.0.begun (c.in_default.ensures.over _ (begun g (goal.at.returns-in_default-clause-over g c).After-settle-arg-1))
