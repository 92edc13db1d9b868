use Rattle.bites_table.proofs.Library.{◌≡◌, ℕ, true, false, take, ◌==◌, slice_index_or, list_any}
use Rattle.bites_table.proofs.visited.are_apart.Given as goal

abbrev pub invariant-loop-state : goal.invariant-loop-state
invariant-loop-state l = (q : ℕ) → list_any (λ s. s == q) (take l.state-index l.states) ≡ true → slice_index_or l.members q false ≡ false
