use Rattle.std.proofs.Common.{length, ◌<◌, ◌≤◌}
use Rattle.bites_scan.proofs.pair.rarest.Given as goal

abbrev pub invariant-loop-k : goal.invariant-loop-k
invariant-loop-k g l = (l.from ≤ l.best) × (l.best < length l.needle)
