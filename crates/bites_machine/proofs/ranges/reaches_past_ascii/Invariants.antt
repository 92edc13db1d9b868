use Rattle.bites_machine.proofs.Library.{◌≡◌, ℕ, ◌≤◌, true, drop, in_ranges}
use Rattle.bites_machine.proofs.ranges.reaches_past_ascii.Given as goal

abbrev pub invariant-loop-last : goal.invariant-loop-last
invariant-loop-last l = (c : ℕ) → 128 ≤ c → in_ranges l.ranges c ≡ true → in_ranges (drop l.last-index l.ranges) c ≡ true
