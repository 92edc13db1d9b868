use Rattle.bites_table.specs.Steps.{IsOrder}
use Rattle.bites_table.proofs.table.sequence.find_steps.Given as goal

abbrev pub invariant-loop : goal.invariant-loop
invariant-loop l = IsOrder l.moves l.order l.steps.items
