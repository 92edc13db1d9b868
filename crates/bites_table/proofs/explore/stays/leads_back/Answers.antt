use Rattle.std.proofs.Common.{◌≡◌, sym, subst}
use Rattle.bites_table.proofs.Words.{ThreadList, list_at, table_of, registers_at, list_of, numbered, outcome_of, DoesNothing}
use Rattle.bites_table.proofs.GraphLemmas.{list-there}
use Rattle.bites_table.proofs.StayLemmas.{leads-back}
use Rattle.bites_table.proofs.explore.stays.leads_back.Goals as goal

pub returns-then-outcome-number : goal.returns-then-outcome-number
returns-then-outcome-number c =
    let g = c.args.graph.now in
    let o = outcome_of c.in-Some.outcome in
    let list : list_at (table_of g) c.args.number ≡ list_of c.list-list.result =
    list-there g c.args.number (numbered c.list-list.result (registers_at g c.args.number)) c.list-list.ensures in
    λ e. leads-back g c.args.number c.args.class o c.in-Some.ensures c.if-outcome-number.true
    (subst (λ (l : ThreadList). DoesNothing o l) (sym list) (c.does_nothing.ensures e))
