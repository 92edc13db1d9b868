use Rattle.std.proofs.Common.{◌≡◌, ◌≤◌, length, false}
use Rattle.bites_spec.specs.Pattern.{skip_blank}
use Rattle.bites_syntax.proofs.cursor.Cursor.skip_blank.Given as goal

abbrev pub invariant-loop-c : goal.invariant-loop-c
invariant-loop-c l = (skip_blank l.inside l.self ≡ skip_blank false l.fn.self) × (length l.self ≤ length l.fn.self)

abbrev pub decreases-loop-c : goal.decreases-loop-c
decreases-loop-c l = length l.self
