use Rattle.std.proofs.Common.{◌≡◌, ◌+◌, length}
use Rattle.bites_bytes.specs.Matches.{matches_left}
use Rattle.bites_bytes.proofs.bytes.matches.Matches.count.Given as goal

abbrev pub invariant-loop-number : goal.invariant-loop-number
invariant-loop-number l = l.number + length (matches_left l.self) ≡ length (matches_left l.fn.self)

abbrev pub decreases-loop-number : goal.decreases-loop-number
decreases-loop-number l = length (matches_left l.self)
