use Rattle.std.proofs.Common.{◌≡◌, length}
use Rattle.bites_table.proofs.Words.{Grows, IsMaking}
use Rattle.bites_table.proofs.explore.make_row.Given as goal

abbrev pub invariant-loop-kind : goal.invariant-loop-kind
invariant-loop-kind l = record {
  making : IsMaking l.context l.graph l.memory.base;
  grows : Grows l.initial.graph l.graph;
  len : length l.graph.cells ≡ length l.initial.graph.cells;
}
