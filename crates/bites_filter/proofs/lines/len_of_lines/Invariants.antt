use Rattle.std.proofs.Common.{◌≤◌, length}
use Rattle.bites_filter.proofs.lines.len_of_lines.Given as goal

abbrev pub invariant-bytes : goal.invariant-bytes
invariant-bytes l = record { within : l.end ≤ length l.bytes }

abbrev pub decreases-bytes : goal.decreases-bytes
decreases-bytes l = l.end
