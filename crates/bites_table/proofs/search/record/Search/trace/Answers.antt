use Rattle.std.proofs.Common.{false, rules, refl, sym}
use Rattle.bites_table.specs.Searches.{IsHeldAt}
use Rattle.bites_table.proofs.SearchesLemmas.{begins_at}
use Rattle.bites_table.proofs.search.record.Search.trace.Goals as goal
use Rattle.bites_table.proofs.search.record.Search.trace.Goals.{After-trace_settled-arg-2-1}
use Rattle.bites_table.proofs.search.record.Search.trace.Given.{Over}

-- the list where the search begins
begun : (g : Over) (c : After-trace_settled-arg-2-1 g) →
    IsHeldAt c.args.self.now c.root-number.result.0 (record { before = g.before; registers = c.args.registers.now; is_found = false; slots = g.before })
begun g c =
    begins_at c.args.self.now g.before c.requires.0.is_asked c.args.registers.now c.root-number.result.0 c.root-number.result.1
    c.root-number.ensures.place c.root-number.ensures.row c.root-number.ensures.number c.root-number.ensures.within c.requires.0.visits c.requires.0.looks

pub trace_settled-requires-clause-stands : goal.trace_settled-requires-clause-stands
trace_settled-requires-clause-stands g c = (_, begun g c)

pub leaves-init : goal.leaves-init
leaves-init g c =
    let first = begun g (goal.at.leaves-init g c).After-trace_settled-arg-2-1 in
    record {
      same = c.in_ok-begun.ensures.same;
      stands = rw c.requires.0.begun (rw c.in-Some.is at (c.in_ok-begun.ensures.stops _ first));
      few = search rules;
      fits = refl;
      searches = refl;
      lead = rw c.in-Some.is at (c.in_ok-begun.ensures.lead _ first (rw c.requires.1.1 (sym c.root-number.ensures.place)));
    }

pub returns-in_default-clause-over : goal.returns-in_default-clause-over
returns-in_default-clause-over g c =
    rw c.requires.0.begun (rw c.in_default.is at (c.in_ok-begun.ensures.stops _ (begun g (goal.at.returns-in_default-clause-over g c).After-trace_settled-arg-2-1)))

pub returns-in_default-clause-lead : goal.returns-in_default-clause-lead
returns-in_default-clause-lead g c =
    let first = begun g (goal.at.returns-in_default-clause-lead g c).After-trace_settled-arg-2-1 in
    rw c.in_default.is at (c.in_ok-begun.ensures.lead _ first (rw c.requires.1.1 (sym c.root-number.ensures.place)))
