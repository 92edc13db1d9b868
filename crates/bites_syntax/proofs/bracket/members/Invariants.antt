use Rattle.std.proofs.Common.{◌≡◌, ◌≤◌, ℕ, suc, length}
use Rattle.bites_spec.specs.Class.{Set}
use Rattle.bites_spec.specs.Reader.{class_members, member}
use Rattle.bites_syntax.specs.FlagsView.{flags_of}
use Rattle.bites_syntax.specs.Members.{Has}
use Rattle.bites_syntax.proofs.bracket.members.Given as goal

-- for each set that the ranges had, the reader is here with a set that they have now
abbrev pub invariant-members : goal.invariant-members
invariant-members l =
    ((n : ℕ) → length l.fn.cursor ≤ n → (set : Set) → Has l.fn.builder set →
    (m : ℕ) × (more : Set) × (length l.cursor ≤ suc m) × Has l.builder more
    × (class_members n (flags_of l.flags) set l.fn.cursor ≡ member (class_members m (flags_of l.flags)) m (flags_of l.flags) more l.cursor))
    × (length l.cursor ≤ length l.fn.cursor)

abbrev pub decreases-members : goal.decreases-members
decreases-members l = length l.cursor
