use Rattle.std.proofs.Common.{refl}
use Rattle.bites_table.proofs.search.record.Search.lend.Goals as goal

pub returns-clause-lent : goal.returns-clause-lent
returns-clause-lent c n is = record {
  cell = c.cell-cell.result.now;
  tells = c.cell-cell.ensures n is;
  bits = c.if-cell-unless-ne0.false;
  next = refl;
  act = refl;
  begins = refl;
  walked = c.record_transition.ensures.walked;
}
