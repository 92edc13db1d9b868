use Rattle.std.proofs.Common.{◌≤◌}
use Rattle.bites_scan.proofs.choice.bucket_of.Given as goal

abbrev pub invariant-loop-literal : goal.invariant-loop-literal
invariant-loop-literal l = l.before ≤ l.literal-index
