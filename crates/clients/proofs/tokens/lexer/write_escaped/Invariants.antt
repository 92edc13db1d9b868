use Rattle.std.proofs.Common.{◌≡◌, ℕ, List, ◌++◌, drop}
use Rattle.std.specs.Io.KnownBytes.{Appends}
use Rattle.clients.specs.Tokens.{escaped}
use Rattle.clients.proofs.tokens.lexer.write_escaped.Given as goal

-- what is written so far and what is left are the text
abbrev pub invariant-loop-byte : goal.invariant-loop-byte
invariant-loop-byte g l =
    (written : List ℕ) × Appends (g.W.Write.contents l.fn.out) (g.W.Write.contents l.out) written
    × (escaped l.text ≡ written ++ escaped (drop l.byte-index l.text))
