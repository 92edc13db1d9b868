use Rattle.bites_machine.proofs.Library.{◌≡◌, ℕ, ◌<◌, ◌||◌, drop, in_ranges, has_bit}
use Rattle.bites_machine.proofs.ranges.ascii_of.Given as goal

abbrev pub invariant-loop-first : goal.invariant-loop-first
invariant-loop-first l = (c : ℕ) → c < 128 → in_ranges l.ranges c ≡ (has_bit l.bits c || in_ranges (drop l.first-index l.ranges) c)
