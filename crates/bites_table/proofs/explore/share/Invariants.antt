use Rattle.bites_table.proofs.Words.{IsFilled, program_in, classes_in}
use Rattle.bites_table.proofs.explore.share.Given as goal

abbrev pub invariant-loop-class : goal.invariant-loop-class
invariant-loop-class l = IsFilled (program_in l.context) (classes_in l.context) l.initial.graph l.graph
