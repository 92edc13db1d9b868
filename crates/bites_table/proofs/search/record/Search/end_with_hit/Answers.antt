use Rattle.bites_table.proofs.Library.{◌*◌, ◌≤◌, ◌∷◌, [], after_place, length, reverse, Some, true, slice_index_or, None, sym, ap, ◌∙◌, subst}
use Rattle.bites_table.proofs.Words.{with_spare, asked, IsOver}
use Rattle.bites_table.proofs.SearchesLemmas.{asked_same, fresh, last_on}
use Rattle.bites_table.proofs.search.record.Search.end_with_hit.Goals as goal

pub lend-requires-clause-fresh : goal.lend-requires-clause-fresh
lend-requires-clause-fresh g c = fresh _ _ _ _ _ _ _ c.requires.0 _ _ c.requires.1

pub returns-clause-over : goal.returns-clause-over
returns-clause-over g c = λ ends.
    let now = c.args.self.now in
    let s = asked now g.before in
    let on = c.requires.0.on in
    let place = c.args.at.place in
    let two = c.if-width-ne2.false in
    let lent = c.in-Some.ensures.lent on.stands.list on.stands.row_is in
    let room = subst (λ n. with_spare * n ≤ length c.args.registers.now) two on.room in
    let over = last_on s on.is_asked _ _ _ _ _ _ on.stands _ _ c.requires.1.over lent.cell lent.tells lent.bits (sym on.width_is ∙ two) room in
    let left = c.end_row.ensures ∙ ap (λ r. slice_index_or c.args.registers.now (r * 2) None ∷ Some place ∷ []) lent.begins in
    let walked = after_place (reverse lent.cell.seen.value.items) lent.cell.looks.value place now.counted.walked in
    subst (λ a. IsOver a true c.end_row.new.slots c.lend.new.self.counted.walked) (sym (asked_same _ _ g.before c.in-Some.ensures.same))
    (subst (λ w. IsOver s true c.end_row.new.slots w) (sym lent.walked) (subst (λ l. IsOver s true l walked) (sym left) over))
