use Rattle.std.proofs.Common.{◌≤◌, length}
use Rattle.bites_syntax.proofs.ReachedLemmas.{Reaches}
use Rattle.bites_syntax.proofs.parse.Parser.+choice.Given as goal

abbrev pub decreases-choice : goal.decreases-choice
decreases-choice l = length l.self.now.cursor

abbrev pub invariant-loop-branches : goal.invariant-loop-branches
invariant-loop-branches l = Reaches l.depth l.fn.self l.self l.branches × (length l.self.cursor ≤ length l.fn.self.cursor)

abbrev pub decreases-loop-branches : goal.decreases-loop-branches
decreases-loop-branches l = length l.self.cursor
