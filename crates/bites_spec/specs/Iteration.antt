-- The successive matches of a regex in a haystack, and the pieces between them.
use Rattle.std.specs.Prelude.{◌≡◌, ℕ, List, map, length, Option, Some, None}
use Rattle.bites_spec.specs.Utf8.{places}
use Rattle.bites_spec.specs.Match.{Span}
use Rattle.bites_spec.specs.Run.{Run, slots}
use Rattle.bites_spec.specs.Slots.{group_in, span_of_run}
use Rattle.bites_spec.specs.Regex.{Regex, IsCompiled, run_at, span_at}
use Rattle.bites_spec.specs.Spans.{successive, successive_after}
use Rattle.bites_spec.specs.Pieces.{gaps, gaps_up_to, text_at}
use Rattle.bites_spec.specs.Captured.{Captured, captured}

module _ (r : Regex) (hay : List ℕ) where
  -- the spans of all matches
  abbrev pub spans_in : List Span
  spans_in = successive (λ s. s) hay (λ s. span_at r hay (places hay s))

  -- the spans of the matches after one that ends at a place, or of all matches
  abbrev pub spans_after : Option ℕ → List Span
  spans_after None = spans_in
  spans_after (Some e) = successive_after (λ s. s) hay (λ s. span_at r hay (places hay s)) e

  -- the groups of the match that a run stands for
  abbrev pub captured_by : Run → Captured
  captured_by x = captured r hay (slots r.program x)

  -- the groups of all matches
  abbrev pub captures_in : List Captured
  captures_in = map captured_by (successive span_of_run hay (λ s. run_at r hay (places hay s)))

  -- the groups of the matches after one that ends at a place, or of all matches
  abbrev pub captures_after : Option ℕ → List Captured
  captures_after None = captures_in
  captures_after (Some e) = map captured_by (successive_after span_of_run hay (λ s. run_at r hay (places hay s)) e)

  -- the pieces between the matches
  abbrev pub pieces_in : List (List ℕ)
  pieces_in = map (text_at hay) (gaps (length hay) spans_in)

  -- at most n pieces: the first n - 1 and then the whole rest, or all if there are fewer
  abbrev pub pieces_up_to : ℕ → List (List ℕ)
  pieces_up_to n = map (text_at hay) (gaps_up_to n (length hay) spans_in)

-- the spans of the captures are the spans of the matches
abbrev pub CapturesHaveSpans : Type 0
CapturesHaveSpans =
    (r : Regex) → IsCompiled r → (hay : List ℕ) → map (λ c. group_in c.slots 0) (captures_in r hay) ≡ map (λ s. Some s) (spans_in r hay)
