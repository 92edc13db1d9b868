use Rattle.std.proofs.Common.{◌≡◌, ℕ, ◌<◌, ◌⊎◌, true, drop}
use Rattle.bites_spec.specs.Range.{in_ranges}
use Rattle.bites_literals.proofs.class.is_ascii.Given as goal

abbrev pub invariant-loop-range : goal.invariant-loop-range
invariant-loop-range l = (c : ℕ) → in_ranges l.ranges c ≡ true → (c < 128) ⊎ (in_ranges (drop l.range-index l.ranges) c ≡ true)
