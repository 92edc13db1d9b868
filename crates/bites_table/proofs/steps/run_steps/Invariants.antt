use Rattle.std.proofs.Common.{take}
use Rattle.bites_table.specs.Steps.{own_rows, after_steps, AreRows}
use Rattle.bites_table.proofs.steps.run_steps.Given as goal

abbrev pub invariant-loop-step : goal.invariant-loop-step
invariant-loop-step l = AreRows l.fn.registers l.width l.place (after_steps (take l.step-index l.steps) own_rows) l.registers
