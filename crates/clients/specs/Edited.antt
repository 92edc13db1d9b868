-- Lines with matches replaced.
use Rattle.std.specs.Prelude.{◌≡◌, ℕ, List, ◌++◌}
use Rattle.std.specs.Io.BufRead.{strip_last}
use Rattle.bites_filter.specs.Lines.{line_feed_of, AreWritten}
use Rattle.bites_spec.specs.Found.{NoMatch}
use Rattle.bites_spec.specs.Regex.{Regex}
use Rattle.bites_spec.specs.Utf8.{places}
use Rattle.bites_filter.specs.Substituted.{Substitutes}

-- The line is written with the matches in its text replaced, and with its line feed. If nothing matches, it is unchanged.
pub record IsEdited (r : Regex) (template : List ℕ) (n : ℕ) (line written : List ℕ) : Type 0 where
  pub new : List ℕ
  pub substitutes : Substitutes r template n (strip_last 10 line) new
  pub written_is : written ≡ new ++ line_feed_of line
  pub unchanged : NoMatch r.tree (strip_last 10 line) (places (strip_last 10 line) 0) → written ≡ line

-- each line is edited, and what is written for them stands in their order
abbrev pub AreEdited : Regex → List ℕ → ℕ → List (List ℕ) → List ℕ → Type 0
AreEdited r template n = AreWritten (IsEdited r template n)
