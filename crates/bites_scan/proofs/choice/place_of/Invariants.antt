use Rattle.std.proofs.Common.{◌≤◌}
use Rattle.bites_scan.proofs.choice.place_of.Given as goal

abbrev pub invariant-loop-place : goal.invariant-loop-place
invariant-loop-place l = l.best ≤ 29
