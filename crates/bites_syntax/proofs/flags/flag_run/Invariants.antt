use Rattle.std.proofs.Common.{◌≡◌, ◌≤◌, [], length}
use Rattle.bites_spec.specs.Pattern.{Front}
use Rattle.bites_spec.specs.Reader.{flags_from}
use Rattle.bites_syntax.proofs.flags.flag_run.Given as goal

abbrev pub invariant-loop-c : goal.invariant-loop-c
invariant-loop-c l =
    ((front : Front) → flags_from front [] l.fn.cursor ≡ flags_from front l.run.items l.cursor) × (length l.cursor ≤ length l.fn.cursor)

abbrev pub decreases-loop-c : goal.decreases-loop-c
decreases-loop-c l = length l.cursor
