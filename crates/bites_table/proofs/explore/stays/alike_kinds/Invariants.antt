use Rattle.std.proofs.Common.{◌≡◌, reverse}
use Rattle.bites_table.proofs.Words.{list_at, table_of, program_in, AllWalkSo}
use Rattle.bites_table.proofs.explore.stays.alike_kinds.Given as goal

abbrev pub invariant-loop-kind : goal.invariant-loop-kind
invariant-loop-kind l = record {
  seen : l.memory.seen ≡ l.fn.memory.seen;
  kinds : AllWalkSo (program_in l.context) (list_at (table_of l.graph) l.number) l.kinds.items (reverse l.fn.memory.seen.items) l.walked.looks;
}
