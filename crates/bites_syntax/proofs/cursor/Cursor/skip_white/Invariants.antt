use Rattle.std.proofs.Common.{◌≡◌, ◌≤◌, length}
use Rattle.bites_spec.specs.Pattern.{skip_white}
use Rattle.bites_syntax.proofs.cursor.Cursor.skip_white.Given as goal

abbrev pub invariant-loop-c : goal.invariant-loop-c
invariant-loop-c l = (skip_white l.self ≡ skip_white l.fn.self) × (length l.self ≤ length l.fn.self)

abbrev pub decreases-loop-c : goal.decreases-loop-c
decreases-loop-c l = length l.self
