use Rattle.std.proofs.Common.{◌≤◌, ◌-◌, length}
use Rattle.clients.specs.Haystack.{ArePieces}
use Rattle.clients.proofs.explain.haystack.pieces_of.Given as goal

-- the pieces so far end at `start`
abbrev pub invariant-loop-start : goal.invariant-loop-start
invariant-loop-start l = ArePieces l.haystack 0 l.pieces.items l.start × l.start ≤ length l.haystack

abbrev pub decreases-loop-start : goal.decreases-loop-start
decreases-loop-start l = length l.haystack - l.start
