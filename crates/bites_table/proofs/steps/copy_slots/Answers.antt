use Rattle.bites_table.proofs.Library.{common_steps, arith, None}
use Rattle.bites_table.specs.Steps.{with_spare}
use Rattle.bites_table.proofs.RowLemmas.{row-room, same-row, others-kept}
use Rattle.bites_table.proofs.steps.copy_slots.Goals as goal

pub returns-clause-copied : goal.returns-clause-copied
returns-clause-copied c = grind (arith, common_steps, row-room, same-row)

pub returns-clause-others : goal.returns-clause-others
returns-clause-others c =
    others-kept c.args.registers.now c.copy_within.new.self with_spare c.args.to c.args.width c.args.width (omega arith) (omega arith) (omega arith) (λ k l. c.copy_within.ensures.by_index.1 k None l) (λ k l. c.copy_within.ensures.by_index.2 k None (omega (arith, l)))
