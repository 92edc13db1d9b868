use Rattle.bites_table.proofs.Library.{◌≤◌, ◌+◌, sym, ap, ◌∙◌, arith, common_steps}
use Rattle.bites_table.proofs.Words.{table_in, asked, IsHeldAt}
use Rattle.bites_table.proofs.SearchesLemmas.{fresh_at, act_within, turn_ends, turn_len, turn_goes}
use Rattle.bites_table.proofs.search.record.Search.step_over.Goals as goal
use Rattle.bites_table.proofs.search.record.Search.step_over.Goals.{After-row_known-1}
use Rattle.bites_table.proofs.search.record.Search.step_over.Given.{Over}

pub lend-requires-clause-fresh : goal.lend-requires-clause-fresh
lend-requires-clause-fresh g c n row t known =
    fresh_at (asked c.args.self.now g.before) c.requires.0.is_asked _ _ _ _ _ _ c.requires.0.stands n row t (ap ((table_in c.args.self.now.table.now).transition n) (sym c.requires.1.0) ∙ known)

pub lend-requires-clause-unless : goal.lend-requires-clause-unless
lend-requires-clause-unless g c n k a tells e = let q = tells.known e in (q.0, q.1)

pub act-act-requires : goal.act-act-requires
act-act-requires g c =
    let at = c.requires.0.stands in
    let lent = c.in-Some.ensures.lent at.list at.row_is in
    rw (ap (λ t. t.now) c.in-Some.ensures.same.table, lent.act) (act_within (asked c.args.self.now g.before) c.requires.0.is_asked _ _ _ _ _ _ at _ c.requires.1.0 lent.cell lent.tells lent.bits)

pub returns-then-is_over-clause-turns : goal.returns-then-is_over-clause-turns
returns-then-is_over-clause-turns g c = grind (arith, common_steps, turn_ends)

-- the search stands where it settles
held : (g : Over) (c : After-row_known-1 g) → IsHeldAt c.lend.new.self (record { place = c.args.at.place + c.args.piece.len; row = c.in-Some.lent.next })
    (record { before = g.before; registers = c.run_steps.new.registers; is_found = c.keep_hit-is_found.result; slots = c.keep_hit-is_found.new.slots })
held g c = grind (arith, common_steps, turn_goes)

pub settle-requires-clause-stands : goal.settle-requires-clause-stands
settle-requires-clause-stands g c = (_, held g c)

pub returns-in-Some-settle-clause-turns : goal.returns-in-Some-settle-clause-turns
returns-in-Some-settle-clause-turns g c =
    let at = c.requires.0.stands in
    let some = turn_len _ _ c.in-Some.ensures.same g.before c.requires.0.is_asked c.args.at _ _ _ at _ c.requires.1.0 _ (c.in-Some.ensures.lent at.list at.row_is) _ c.act-act.ensures.act
    _ c.requires.0.width_is _ c.requires.1.1.1.0 _ c.keep_hit-is_found.ensures.found _ c.keep_hit-is_found.ensures.slots _ c.is_over.ensures c.if-is_over.false in
    let onward : c.args.at.place + c.args.piece.len ≤ c.in-Some-settle.to.place = c.in-Some-settle.ensures.onward in
    ((c.in-Some-settle.ensures.stands _ (held g (goal.at.returns-in-Some-settle-clause-turns g c).After-row_known-1)).stands, omega arith)

pub returns-in-None-clause-turns : goal.returns-in-None-clause-turns
returns-in-None-clause-turns g c = c.in-None.ensures.over _ (held g (goal.at.returns-in-None-clause-turns g c).After-row_known-1)
