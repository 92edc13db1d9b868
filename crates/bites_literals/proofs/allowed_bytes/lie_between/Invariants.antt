use Rattle.std.proofs.Common.{◌-◌}
use Rattle.bites_literals.specs.AllowedBytes.{LieBetween}
use Rattle.bites_literals.proofs.allowed_bytes.lie_between.Given as goal

abbrev pub invariant-loop-at : goal.invariant-loop-at
invariant-loop-at l = LieBetween l.least l.greatest l.haystack 0 l.at

abbrev pub decreases-loop-at : goal.decreases-loop-at
decreases-loop-at l = l.len - l.at
