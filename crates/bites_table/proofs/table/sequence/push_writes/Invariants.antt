use Rattle.bites_table.proofs.Words.{source_of, Gives}
use Rattle.bites_table.proofs.table.sequence.push_writes.Given as goal

abbrev pub invariant-loop : goal.invariant-loop
invariant-loop l = Gives l.fn.steps.items l.steps.items l.register (source_of l.own)
