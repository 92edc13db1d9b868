use Rattle.bites_table.proofs.Library.{◌≡◌, ◌∷◌, ℕ, length, true, false, slice_index_or}
use Rattle.bites_table.proofs.Words.{table_of, IsKept}
use Rattle.bites_table.proofs.explore.stays.kept_by.Given as goal

abbrev pub invariant-loop-class : goal.invariant-loop-class
invariant-loop-class l = record {
  len : length l.keeps ≡ 256;
  kept : (c : ℕ) → slice_index_or l.keeps c false ≡ true → IsKept (table_of l.graph) l.number (l.first ∷ l.kinds) l.context.after.now c;
}
