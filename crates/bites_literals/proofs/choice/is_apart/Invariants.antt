use Rattle.std.proofs.Common.{◌≤◌, ◌<◌, ℕ, ◌+◌}
use Rattle.std.specs.Prelude.{slice_index_or}
use Rattle.bites_scan.specs.Literal.{Needle, DifferFrom}
use Rattle.bites_literals.proofs.choice.is_apart.Given as goal

abbrev pub invariant-loop-second : goal.invariant-loop-second
invariant-loop-second l = (k : ℕ) (d : Needle) → l.first + 1 ≤ k → k < l.second → DifferFrom (slice_index_or l.texts l.first d) (slice_index_or l.texts k d)
