-- The matches in a text that iterators have left.
use Rattle.std.specs.Prelude.{ℕ, List, map}
use Rattle.bites_spec.specs.Match.{Span}
use Rattle.bites_spec.specs.Captured.{Excerpt}
use Rattle.bites_bytes.specs.Matches as over_bytes
use Rattle.regex_bites.specs.declared.string.matches.Matches.{Matches}

abbrev pub haystack_of_matches : Matches → List ℕ
haystack_of_matches s = s.haystack.now

-- the matches that are still to come
abbrev pub matches_left : Matches → List Excerpt
matches_left s = over_bytes.matches_left s.matches

-- their spans
abbrev pub spans_left : Matches → List Span
spans_left s = map (λ e. e.span) (matches_left s)
