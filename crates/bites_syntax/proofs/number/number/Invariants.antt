use Rattle.std.proofs.Common.{◌≡◌, ◌≤◌, length}
use Rattle.bites_spec.specs.Pattern.{number}
use Rattle.bites_syntax.specs.FlagsView.{flags_of}
use Rattle.bites_syntax.specs.Numbers.{AgreeBelow}
use Rattle.bites_syntax.specs.Sets.{members_of}
use Rattle.bites_syntax.specs.Steps.{each_of}
use Rattle.bites_syntax.proofs.NumberLemmas.{number_from}
use Rattle.bites_syntax.proofs.number.number.Given as goal

abbrev pub invariant-loop-c : goal.invariant-loop-c
invariant-loop-c l =
    AgreeBelow 4294967296 (number_from l.base l.value (each_of (flags_of l.flags) (members_of l.set) l.cursor).0)
    (number l.base (each_of (flags_of l.flags) (members_of l.set) l.fn.cursor).0)
    × (l.value ≤ 4294967296)
    × ((each_of (flags_of l.flags) (members_of l.set) l.cursor).1 ≡ (each_of (flags_of l.flags) (members_of l.set) l.fn.cursor).1)
    × (length l.cursor ≤ length l.fn.cursor)

abbrev pub decreases-loop-c : goal.decreases-loop-c
decreases-loop-c l = length l.cursor
