-- The pieces of a text that iterators over them have left.
use Rattle.std.specs.Prelude.{ℕ, List, Option}
use Rattle.std.specs.Borrow.{Bor}
use Rattle.bites_spec.specs.Match.{Span}
use Rattle.bites_bytes.specs.Split.{at_most_of, pieces_of, StepsOnBy}
use Rattle.regex_bites.specs.Matches.{spans_left}
use Rattle.regex_bites.specs.declared.string.split.Split.{Split}
use Rattle.regex_bites.specs.declared.string.split.SplitN.{SplitN}

-- the pieces between these spans
abbrev pub pieces_by : Split → List Span → List (List ℕ)
pieces_by s = pieces_of s.matches.haystack.now s.begin s.done

-- the pieces that are still to come
abbrev pub pieces_left : Split → List (List ℕ)
pieces_left s = pieces_by s (spans_left s.matches)

abbrev pub at_most_left : ℕ → Split → List (List ℕ)
at_most_left n s = at_most_of n s.matches.haystack.now s.begin s.done (spans_left s.matches)

-- the pieces that are still to come, at most as many as may come
abbrev pub limited_left : SplitN → List (List ℕ)
limited_left s = at_most_left s.left s.split

-- the bytes of a piece
abbrev pub text_now : Bor (List ℕ) → List ℕ
text_now = λ t. t.now

abbrev pub StepsOn : Split → Option (Bor (List ℕ)) → Split → Type 0
StepsOn = StepsOnBy pieces_left at_most_left
