use Rattle.bites_table.proofs.Library.{reverse, Among}
use Rattle.bites_table.proofs.Words.{table_of, classes_in}
use Rattle.bites_table.proofs.RestLemmas.{AreDone}
use Rattle.bites_table.proofs.explore.rests.follow_calm.Given as goal

abbrev pub invariant-loop-i : goal.invariant-loop-i
invariant-loop-i l = record {
  own : Among l.lists.items l.number;
  done : AreDone (table_of l.graph) (classes_in l.context) l.end (reverse l.memory.seen.items) l.walked.looks l.lists.items l.i;
}
