use Rattle.std.proofs.Common.{◌≡◌, ◌⊎◌, ◌≤◌, ◌<◌, ℕ, length}
use Rattle.bites_literals.specs.AllowedBytes.{MayStand}
use Rattle.bites_literals.proofs.allowed_bytes.set_bits.Given as goal

abbrev pub invariant-loop-byte : goal.invariant-loop-byte
invariant-loop-byte l =
    (length l.masks ≡ 256)
    × ((b : ℕ) → l.first ≤ b → b < l.byte → MayStand l.masks l.offset b)
    × ((k b : ℕ) → MayStand l.masks k b → MayStand l.initial.masks k b ⊎ ((k ≡ l.offset) × (l.first ≤ b) × (b < l.byte) × (b ≤ l.last)))
    × ((k b : ℕ) → MayStand l.initial.masks k b → MayStand l.masks k b)
