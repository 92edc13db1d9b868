use Rattle.bites_table.proofs.Library.{◌<◌, ◌∷◌, ℕ, length, slice_index_or, Among}
use Rattle.bites_table.specs.declared.kind.Kind.TheVariants.{Edge}
use Rattle.bites_table.proofs.explore.rests.are_all_among.Given as goal

abbrev pub invariant-loop-class : goal.invariant-loop-class
invariant-loop-class l = (c : ℕ) → c < l.class → (c < length l.after) × Among (l.first ∷ l.others) (slice_index_or l.after c Edge)
