use Rattle.std.proofs.Common.{◌≡◌, length}
use Rattle.bites_table.proofs.Words.{Grows, IsMaking}
use Rattle.bites_table.proofs.explore.add_cells.Given as goal

abbrev pub invariant-loop : goal.invariant-loop
invariant-loop l = record {
  making : IsMaking l.context l.graph l.memory.base;
  grows : Grows l.initial.graph l.graph;
  len : length l.graph.cells ≡ length l.initial.graph.cells;
  walk : l.memory.walk ≡ l.initial.memory.walk;
  seen : l.memory.seen.items ≡ l.initial.memory.seen.items;
}
