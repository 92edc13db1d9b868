use Rattle.std.proofs.Common.{◌≡◌, ◌≤◌, ℕ, length}
use Rattle.bites_syntax.specs.FlagsView.{flags_of}
use Rattle.bites_syntax.specs.Hexadecimal.{fixed_number}
use Rattle.bites_syntax.specs.Numbers.{AgreeBelow}
use Rattle.bites_syntax.proofs.hexadecimal.exactly.Given as goal

abbrev pub invariant-loop-left : goal.invariant-loop-left
invariant-loop-left l =
    (n : ℕ) × (fixed_number n l.left (flags_of l.flags) l.cursor ≡ fixed_number 0 l.count (flags_of l.flags) l.fn.cursor) × AgreeBelow 4294967296 l.value n
    × (l.value ≤ 4294967296) × (length l.cursor ≤ length l.fn.cursor)

abbrev pub decreases-loop-left : goal.decreases-loop-left
decreases-loop-left l = l.left
