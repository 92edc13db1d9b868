use Rattle.bites_table.proofs.Library.{◌≡◌, ◌<◌, ℕ, true, false, None, IfSome, slice_index_or}
use Rattle.bites_table.specs.Steps.{IsOrder}
use Rattle.bites_table.proofs.table.sequence.Order.push_free.Given as goal

abbrev pub invariant-loop-to : goal.invariant-loop-to
invariant-loop-to l = record {
  order : IsOrder l.moves l.self l.steps.items;
  done : l.left ≡ None → (r : ℕ) → r < l.to → slice_index_or l.self.is_done r false ≡ true;
  left : IfSome l.left (λ t. (t < l.to) × (slice_index_or l.self.is_done t false ≡ false));
}
