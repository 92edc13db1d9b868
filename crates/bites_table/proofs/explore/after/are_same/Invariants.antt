use Rattle.bites_table.proofs.Library.{◌≡◌, ℕ, ◌<◌, slice_index_or}
use Rattle.bites_table.specs.declared.kind.Kind.TheVariants.{Edge}
use Rattle.bites_table.proofs.explore.after.are_same.Given as goal

abbrev pub invariant-loop-kind : goal.invariant-loop-kind
invariant-loop-kind l = (c : ℕ) → c < l.kind-index → slice_index_or l.kinds c Edge ≡ slice_index_or l.kinds 0 Edge
