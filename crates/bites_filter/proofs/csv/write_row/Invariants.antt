use Rattle.std.proofs.Common.{◌≡◌, ℕ, List, ◌++◌, map, drop}
use Rattle.std.specs.Io.KnownBytes.{Appends}
use Rattle.bites_filter.specs.Csv.{row, row_after}
use Rattle.bites_filter.proofs.csv.write_row.Given as goal

-- what is written so far and what is left are the row
abbrev pub invariant-loop-field : goal.invariant-loop-field
invariant-loop-field g l =
    (written : List ℕ) × Appends (g.W.Write.contents l.fn.out) (g.W.Write.contents l.out) written
    × (row (map (λ f. f.now) l.fields) ≡ written ++ row_after l.separator (map (λ f. f.now) (drop l.field-index l.fields)))
