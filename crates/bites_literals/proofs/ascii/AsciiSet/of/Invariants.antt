use Rattle.std.proofs.Common.{◌≡◌, ℕ, ◌<◌, ◌⊎◌, true, drop}
use Rattle.bites_spec.specs.Range.{in_ranges}
use Rattle.bites_literals.specs.Ascii.{Has}
use Rattle.bites_literals.proofs.ascii.AsciiSet.of.Given as goal

abbrev pub invariant-loop-range : goal.invariant-loop-range
invariant-loop-range l =
    ((c : ℕ) → c < 128 → in_ranges l.ranges c ≡ true → Has l.set c ⊎ (in_ranges (drop l.range-index l.ranges) c ≡ true))
    × ((c : ℕ) → c < 128 → Has l.set c ⊎ (in_ranges (drop l.range-index l.ranges) c ≡ true) → in_ranges l.ranges c ≡ true)
