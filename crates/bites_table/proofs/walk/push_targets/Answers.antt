use Rattle.bites_table.proofs.Library.{◌≡◌, ℕ, ◌-◌, ◌<◌, ◌≤◌, ◌∷◌, Bool, true, false, List, length, drop, drop-cons, slice_index, refl, arith, targets_of, common_steps}
use Rattle.std.proofs.lemmas.List.{length-reverse}
use Rattle.bites_spec.specs.Program as program
use Rattle.bites_table.proofs.walk.push_targets.Goals as goal

as_many : (ts : List ℕ) (reverse : Bool) → length (targets_of (program.splits ts reverse)) ≡ length ts
as_many ts true = length-reverse ts
as_many ts false = refl

one_more : (ts : List ℕ) (n state : ℕ) → 0 < n → n ≤ length ts → state ≡ slice_index ts (n - 1) → drop (n - 1) ts ≡ state ∷ drop n ts
one_more ts n state some within is = grind (arith, drop-cons)

pub loop-number-preserved : goal.loop-number-preserved
loop-number-preserved c = grind (arith, common_steps, as_many, one_more)
