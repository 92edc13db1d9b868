use Rattle.std.proofs.Common.{◌≤◌}
use Rattle.bites_literals.proofs.prefilter.back_to_piece.Given as goal

abbrev pub invariant-bytes : goal.invariant-bytes
invariant-bytes l = record { onward : l.start ≤ l.at; back : l.at ≤ l.from }

abbrev pub decreases-bytes : goal.decreases-bytes
decreases-bytes l = l.at
