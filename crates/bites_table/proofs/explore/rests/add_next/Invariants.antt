use Rattle.std.proofs.Common.{◌≡◌, ◌<◌, ◌++◌, ℕ, List}
use Rattle.bites_table.proofs.Words.{table_of, LeadsAmong}
use Rattle.bites_table.proofs.explore.rests.add_next.Given as goal

abbrev pub invariant-loop-class : goal.invariant-loop-class
invariant-loop-class l = record {
  grows : (more : List ℕ) × (l.lists.items ≡ l.initial.lists.items ++ more);
  closed : (c : ℕ) → c < l.class → LeadsAmong (table_of l.graph) l.lists.items l.number c;
}
