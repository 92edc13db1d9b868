use Rattle.std.proofs.Common.{◌≡◌, ◌⊎◌, ◌<◌, ℕ, drop, true, IsTrue}
use Rattle.bites_spec.specs.Range.{in_ranges}
use Rattle.bites_literals.specs.AllowedBytes.{MayStand}
use Rattle.bites_literals.proofs.allowed_bytes.AllowedBytes.allow_all.Given as goal

abbrev pub invariant-loop-range : goal.invariant-loop-range
invariant-loop-range l =
    ((c : ℕ) → IsTrue (in_ranges l.ranges c) → ((c < 128) × MayStand l.self l.offset c) ⊎ (in_ranges (drop l.range-index l.ranges) c ≡ true))
    × ((k b : ℕ) → MayStand l.self k b → MayStand l.initial.self k b ⊎ ((k ≡ l.offset) × IsTrue (in_ranges l.ranges b)))
    × ((k b : ℕ) → MayStand l.initial.self k b → MayStand l.self k b)
