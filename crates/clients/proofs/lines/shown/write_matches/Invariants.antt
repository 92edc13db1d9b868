use Rattle.std.proofs.Common.{◌≡◌, ℕ, List, ◌++◌}
use Rattle.std.specs.Io.KnownBytes.{Appends}
use Rattle.bites_bytes.specs.Searcher.{Keeps, matches_left}
use Rattle.clients.proofs.ShownLemmas.{match_lines}
use Rattle.clients.proofs.lines.shown.write_matches.Given as goal

-- what is written so far and the matches that are left are all matches, and the searcher is as it was
abbrev pub invariant-loop-found : goal.invariant-loop-found
invariant-loop-found g l =
    (written : List ℕ) × Appends (g.W.Write.contents l.fn.out) (g.W.Write.contents l.out) written
    × (match_lines l.format l.number (matches_left l.initial.found-iterator)
    ≡ written ++ match_lines l.format l.number (matches_left l.found-iterator))
    × Keeps l.initial.found-iterator l.found-iterator
