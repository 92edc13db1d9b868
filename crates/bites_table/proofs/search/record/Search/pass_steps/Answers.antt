use Rattle.bites_table.proofs.Library.{ap, arith, length, slice_get_within, common_steps}
use Rattle.bites_table.proofs.Words.{RunsAct}
use Rattle.bites_table.proofs.SearchesLemmas.{fresh, lent_on, stepped_on}
use Rattle.bites_table.proofs.search.record.Search.pass_steps.Goals as goal

pub lend-requires-clause-fresh : goal.lend-requires-clause-fresh
lend-requires-clause-fresh g c = fresh _ _ _ _ _ _ _ c.requires.0.2 _ _ c.requires.1.0

pub run_act-requires-clause-act : goal.run_act-requires-clause-act
run_act-requires-clause-act g c = grind (arith, common_steps, slice_get_within, c.requires.0.2, c.in_ok-lent.ensures.lent)

pub returns-clause-stands : goal.returns-clause-stands
returns-clause-stands g c = (
  let some = c.requires.1.1 in omega arith,
  λ f l on.
      let now = c.args.self.now in
      let at = on.on.stands in
      let lent = c.in_ok-lent.ensures.lent at.list at.row_is in
      let runs : RunsAct now.table.now lent.cell.act (length g.before) c.args.at.place c.args.registers.now c.run_act.new.registers =
      rw (ap (λ t. t.now) c.in_ok-lent.ensures.same.table, on.on.width_is, lent.act) at c.run_act.ensures in
      lent_on _ _ g.before _ _ _ _ _ _ c.in_ok-lent.ensures.same lent _ f l
      (stepped_on _ on.on.is_asked _ _ _ f l _ at _ _ c.requires.1.1 c.requires.1.0.over lent.cell lent.tells lent.bits _ runs),
)
