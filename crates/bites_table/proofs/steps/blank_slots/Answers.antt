use Rattle.bites_table.proofs.Library.{common_steps, arith, get_or-set_other}
use Rattle.bites_table.specs.Steps.{with_spare}
use Rattle.bites_table.proofs.RowLemmas.{row-room, blank-row, written-more, others-kept}
use Rattle.bites_table.proofs.steps.blank_slots.Goals as goal

pub loop-slot-preserved : goal.loop-slot-preserved
loop-slot-preserved c = grind (arith, common_steps, row-room, written-more, get_or-set_other)

pub returns-clause-blank : goal.returns-clause-blank
returns-clause-blank c = grind (arith, common_steps, row-room, blank-row)

pub returns-clause-others : goal.returns-clause-others
returns-clause-others c =
    others-kept c.args.registers.now c.loop-slot.registers with_spare c.args.to c.args.width c.loop-slot.slot (omega arith) (omega arith) (omega arith) c.loop-slot.invariant.below c.loop-slot.invariant.above
