use Rattle.std.proofs.Common.{◌≤◌}
use Rattle.bites_table.proofs.explore.after.kinds_among.Given as goal

abbrev pub invariant-loop-number : goal.invariant-loop-number
invariant-loop-number l = l.len ≤ l.number
