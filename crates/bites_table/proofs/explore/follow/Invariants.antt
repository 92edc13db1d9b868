use Rattle.bites_table.proofs.Words.{Grows, IsMaking}
use Rattle.bites_table.proofs.explore.follow.Given as goal

abbrev pub invariant-loop-number : goal.invariant-loop-number
invariant-loop-number l = record {
  making : IsMaking l.context l.graph l.memory.base;
  grows : Grows l.initial.graph l.graph;
}
