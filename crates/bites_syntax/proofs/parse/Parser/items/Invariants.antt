use Rattle.std.proofs.Common.{◌≤◌, ℕ, suc, List, length}
use Rattle.bites_spec.specs.Pattern as pattern
use Rattle.bites_spec.specs.RangesOf.{ranges_of}
use Rattle.bites_spec.specs.Reader.{inner}
use Rattle.bites_spec.specs.Tree.{Tree}
use Rattle.bites_syntax.specs.Progress.{GoesOnWithItem, IsAt}
use Rattle.bites_syntax.proofs.parse.Parser.items.Given as goal

abbrev pub invariant-loop-c : goal.invariant-loop-c
invariant-loop-c l =
    ((limit : ℕ) → (g : pattern.Front) → (bs ts : List Tree) → IsAt limit l.fn.self l.fn.branches g bs ts → (depth n : ℕ) → length l.fn.self.cursor ≤ n →
    GoesOnWithItem limit depth l.self l.branches (inner ranges_of limit (suc n) depth g bs ts l.fn.self.cursor))
    × (length l.self.cursor ≤ length l.fn.self.cursor)

abbrev pub decreases-loop-c : goal.decreases-loop-c
decreases-loop-c l = length l.self.cursor
