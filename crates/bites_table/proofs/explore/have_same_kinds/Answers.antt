use Rattle.bites_table.proofs.Library.{common_steps, arith}
use Rattle.bites_table.proofs.KindLemmas.{same_kind}
use Rattle.bites_table.proofs.explore.have_same_kinds.Goals as goal

pub returns-then-eq-clause-before : goal.returns-then-eq-clause-before
returns-then-eq-clause-before c same = grind (arith, common_steps, same_kind)
