use Rattle.std.proofs.Common.{◌≡◌, ◌++◌, take}
use Rattle.bites_table.specs.Bounds.{ends_of}
use Rattle.bites_table.proofs.bounds.push_ranges.Given as goal

abbrev pub invariant-loop-first : goal.invariant-loop-first
invariant-loop-first l = l.bounds.items ≡ l.initial.bounds.items ++ ends_of (take l.first-index l.ranges)
