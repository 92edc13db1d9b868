use Rattle.std.proofs.Common.{◌≤◌}
use Rattle.bites_literals.specs.AllowedBytes.{Fits}
use Rattle.bites_literals.proofs.allowed_bytes.AllowedBytes.fit.Given as goal

abbrev pub invariant-loop-offset : goal.invariant-loop-offset
invariant-loop-offset l = (l.offset ≤ l.len) × Fits l.self l.haystack 0 l.offset
