use Rattle.std.proofs.Common.{◌≡◌, ◌≤◌, ◌++◌, length, string_bytes}
use Rattle.bites_spec.specs.Escape.{is_boundary_letter}
use Rattle.bites_syntax.specs.FlagsView.{flags_of}
use Rattle.bites_syntax.specs.Steps.{each_of}
use Rattle.bites_syntax.proofs.escape.letters.Given as goal

abbrev pub invariant-loop-c : goal.invariant-loop-c
invariant-loop-c l =
    (string_bytes l.letters ++ (each_of (flags_of l.flags) is_boundary_letter l.cursor).0 ≡ (each_of (flags_of l.flags) is_boundary_letter l.fn.cursor).0)
    × ((each_of (flags_of l.flags) is_boundary_letter l.cursor).1 ≡ (each_of (flags_of l.flags) is_boundary_letter l.fn.cursor).1)
    × (length l.cursor ≤ length l.fn.cursor)

abbrev pub decreases-loop-c : goal.decreases-loop-c
decreases-loop-c l = length l.cursor
