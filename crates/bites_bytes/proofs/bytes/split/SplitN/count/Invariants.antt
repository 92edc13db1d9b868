use Rattle.std.proofs.Common.{◌≡◌, ◌+◌, length}
use Rattle.bites_bytes.specs.Split.{limited_left}
use Rattle.bites_bytes.proofs.bytes.split.SplitN.count.Given as goal

abbrev pub invariant-loop-number : goal.invariant-loop-number
invariant-loop-number l = l.number + length (limited_left l.self) ≡ length (limited_left l.fn.self)

abbrev pub decreases-loop-number : goal.decreases-loop-number
decreases-loop-number l = length (limited_left l.self)
