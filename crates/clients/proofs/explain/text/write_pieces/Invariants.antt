use Rattle.std.proofs.Common.{◌≡◌, ℕ, List, ◌++◌, drop}
use Rattle.std.specs.Io.KnownBytes.{Appends}
use Rattle.clients.proofs.PageTextLemmas.{written_pieces}
use Rattle.clients.proofs.explain.text.write_pieces.Given as goal

-- what is written so far and what is left are all pieces
abbrev pub invariant-loop-piece : goal.invariant-loop-piece
invariant-loop-piece g l =
    (written : List ℕ) × Appends (g.W.Write.contents l.fn.out) (g.W.Write.contents l.out) written
    × (written_pieces l.pieces ≡ written ++ written_pieces (drop l.piece-index l.pieces))
