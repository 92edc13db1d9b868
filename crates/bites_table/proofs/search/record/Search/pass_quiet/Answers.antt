use Rattle.bites_table.proofs.Library.{bit_and, row_in, ◌≡◌, ◌<◌, ℕ, length, ap, ◌∙◌, arith}
use Rattle.bites_table.proofs.Words.{with_spare, row_at, mask_of, passed_row}
use Rattle.bites_table.proofs.SearchesLemmas.{fresh, lent_on, passed_on}
use Rattle.bites_table.proofs.search.record.Search.pass_quiet.Goals as goal

pub lend-requires-clause-fresh : goal.lend-requires-clause-fresh
lend-requires-clause-fresh g c = fresh _ _ _ _ _ _ _ c.requires.0.2 _ _ c.requires.1.0

pub returns-clause-stands : goal.returns-clause-stands
returns-clause-stands g c = (
  let some = c.requires.1.1 in omega arith,
  λ f l on.
      let now = c.args.self.now in
      let at = on.on.stands in
      let w = length g.before in
      let lent = c.in_ok-lent.ensures.lent at.list at.row_is in
      let bit : c.args.width.bit ≡ mask_of now.table.now.slots w = on.bits.bit ∙ ap (mask_of now.table.now.slots) on.on.width_is in
      let bits : bit_and lent.cell.doing (mask_of now.table.now.slots w) ≡ 0 = rw bit at lent.bits in
      let left : (r : ℕ) → r < with_spare → row_in c.pass_rows.new.registers w r
      ≡ row_at w c.args.at.place (row_in c.args.registers.now w) (passed_row (mask_of now.table.now.slots w) w lent.cell.begins lent.cell.act r) = λ r lt. rw (bit, lent.begins, lent.act) at (c.pass_rows.ensures r lt) in
      lent_on _ _ g.before _ _ _ _ _ _ c.in_ok-lent.ensures.same lent _ f l
      (passed_on _ on.on.is_asked _ _ _ f l _ at _ _ c.requires.1.1 c.requires.1.0.over lent.cell lent.tells bits _ left),
)
