use Rattle.std.proofs.Common.{◌≡◌, ◌+◌, length}
use Rattle.regex_bites.specs.Split.{limited_left}
use Rattle.regex_bites.proofs.string.split.SplitN.count.Given as goal

abbrev pub invariant-loop-number : goal.invariant-loop-number
invariant-loop-number l = l.number + length (limited_left l.self) ≡ length (limited_left l.fn.self)

abbrev pub decreases-loop-number : goal.decreases-loop-number
decreases-loop-number l = length (limited_left l.self)
