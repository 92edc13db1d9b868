use Rattle.std.proofs.Common.{◌≡◌, ◌≤◌, length}
use Rattle.bites_syntax.specs.FlagsView.{flags_of}
use Rattle.bites_syntax.specs.Sets.{members_of}
use Rattle.bites_syntax.specs.Steps.{each_of}
use Rattle.bites_syntax.proofs.cursor.Cursor.pass_each.Given as goal

abbrev pub invariant-loop : goal.invariant-loop
invariant-loop l =
    ((each_of (flags_of l.flags) (members_of l.set) l.self).1 ≡ (each_of (flags_of l.flags) (members_of l.set) l.fn.self).1) × (length l.self ≤ length l.fn.self)

abbrev pub decreases-loop : goal.decreases-loop
decreases-loop l = length l.self
