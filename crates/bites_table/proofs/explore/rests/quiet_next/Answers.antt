use Rattle.std.proofs.Common.{◌≡◌, rules, sym, subst}
use Rattle.bites_table.proofs.Words.{ThreadList, list_at, table_of, registers_at, list_of, numbered, outcome_of, DoesNothing}
use Rattle.bites_table.proofs.GraphLemmas.{list-there}
use Rattle.bites_table.proofs.StayLemmas.{leads-quietly}
use Rattle.bites_table.proofs.explore.rests.quiet_next.Goals as goal

pub returns-clause-quiet : goal.returns-clause-quiet
returns-clause-quiet c =
    let g = c.args.graph.now in
    let o = outcome_of c.in_ok-outcome.outcome in
    let list : list_at (table_of g) o.next ≡ list_of c.list.result =
    list-there g o.next (numbered c.list.result (registers_at g o.next)) c.list.ensures in
    leads-quietly g c.args.number c.args.class o c.in_ok-outcome.ensures
    (subst (λ (l : ThreadList). DoesNothing o l) (sym list) (c.does_nothing.ensures (search rules)))
