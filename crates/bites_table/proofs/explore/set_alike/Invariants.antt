use Rattle.bites_table.proofs.Words.{IsFilled, program_in, classes_in}
use Rattle.bites_table.proofs.explore.set_alike.Given as goal

abbrev pub invariant-loop-others : goal.invariant-loop-others
invariant-loop-others l = IsFilled (program_in l.context) (classes_in l.context) l.initial.graph l.graph

abbrev pub decreases-loop-others : goal.decreases-loop-others
decreases-loop-others l = l.others
