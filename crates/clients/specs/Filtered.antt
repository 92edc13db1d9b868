-- What a filter does with a line.
use Rattle.std.specs.Prelude.{◌≡◌, ℕ, Bool, true, false, not, List, []}
use Rattle.bites_spec.specs.Regex.{Regex}
use Rattle.clients.specs.declared.lines.options.Format.{Format}
use Rattle.clients.specs.declared.lines.filter.Filter.{Filter}
use Rattle.clients.specs.Selected.{IsAskedFor, IsShown}

-- a line that is asked for counts and is shown; for any other line nothing is written
abbrev pub ShowsAsked : Regex → Bool → Format → ℕ → List ℕ → List ℕ → Bool → Type 0
ShowsAsked r invert f n line text true = IsAskedFor r.tree invert line × IsShown r f f.show n line text
ShowsAsked r invert f n line text false = IsAskedFor r.tree (not invert) line × (text ≡ [])

-- the filter does that, and is unchanged
abbrev pub Filters : Filter → ℕ → List ℕ → List ℕ → Bool → Filter → Type 0
Filters s n line text counts s' = ShowsAsked s.searcher s.invert s.format n line text counts × (s' ≡ s)
