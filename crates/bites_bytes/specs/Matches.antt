-- The matches that iterators have left.
use Rattle.std.specs.Prelude.{◌≡◌, ◌≤◌, ℕ, Bool, true, false, List, [], ◌∷◌, map, length, Option, Some, None, option_map, unwrap_or, MatchOption}
use Rattle.std.specs.Iterator.{YieldsFirstBy}
use Rattle.bites_spec.specs.Match.{Span}
use Rattle.bites_spec.specs.Regex.{Regex}
use Rattle.bites_spec.specs.Captured.{Captured, Excerpt, excerpt, captured, AreGroups}
use Rattle.bites_spec.specs.Iteration.{spans_after, captures_after}
use Rattle.bites_bytes.specs.Calls.{ReadsNext}
use Rattle.bites_bytes.specs.Matched.{excerpt_of}
use Rattle.bites_bytes.specs.declared.bytes.matched.Match.{Match}
use Rattle.bites_bytes.specs.declared.bytes.matches.Cursor.{Cursor}
use Rattle.bites_bytes.specs.declared.bytes.matches.Matches.{Matches}

-- the regex and the haystack
abbrev pub regex_of : Cursor → Regex
regex_of s = s.regex.now

abbrev pub haystack_of : Cursor → List ℕ
haystack_of s = s.haystack.now

-- where the match before ended, if there was one
abbrev pub last_of : Cursor → Option ℕ
last_of s = s.last

-- the spans of the matches that are still to come
abbrev pub spans_left : Cursor → List Span
spans_left s = spans_after s.regex.now s.haystack.now s.last

-- the matches that are still to come
abbrev pub left_from : Cursor → List Excerpt
left_from s = map (excerpt s.haystack.now) (spans_left s)

-- a cursor before the first match
pub record Begins (r : Regex) (hay : List ℕ) (s : Cursor) : Type 0 where
  pub regex : regex_of s ≡ r
  pub haystack : haystack_of s ≡ hay
  pub last : last_of s ≡ None

-- the place where the match before ended, or 0, lies in the haystack
pub record IsLastEnd (hay : List ℕ) (before : Option ℕ) (place : ℕ) : Type 0 where
  pub last : place ≡ unwrap_or before 0
  pub within : place ≤ length hay

-- what an iterator has of its cursor
abbrev pub cursor_of : Matches → Cursor
cursor_of s = s.cursor

abbrev pub regex_of_matches : Matches → Regex
regex_of_matches s = regex_of s.cursor

abbrev pub matches_left : Matches → List Excerpt
matches_left s = left_from s.cursor

-- the haystack and the regex stay
abbrev pub IsSameSearch : Cursor → Cursor → Type 0
IsSameSearch s t = (t.regex.now ≡ s.regex.now) × (t.haystack.now ≡ s.haystack.now)

-- the match begins where the one before ended or later, and the search goes on where it ends
abbrev pub Moves : Cursor → Option Match → Cursor → Type 0
Moves s r t =
    MatchOption r (t.last ≡ s.last)
    (λ m. (unwrap_or s.last 0 ≤ (excerpt_of m).span.start) × (t.last ≡ Some (excerpt_of m).span.end))

-- a step to the next match
pub record StepsTo (s : Cursor) (r : Option Match) (t : Cursor) : Type 0 where
  pub steps : YieldsFirstBy excerpt_of left_from s r t
  pub moves : Moves s r t
  pub same : IsSameSearch s t

-- a step to the next match, whose groups are written over the slots
pub record StepsWith (s : Cursor) (r : Option Match) (t : Cursor) (before after : List (Option ℕ)) : Type 0 where
  pub next : ReadsNext (regex_of s) (haystack_of s) (last_of s) (option_map excerpt_of r) after
  pub moves : Moves s r t
  pub same : IsSameSearch s t
  pub len : length after ≡ length before

-- the captures of the matches that are still to come
abbrev pub captures_to_come : Cursor → List Captured
captures_to_come s = captures_after s.regex.now s.haystack.now s.last

-- a step with all slots goes to the captures of the next match, if there is one
abbrev pub CapturesCome : Cursor → Bool → Cursor → List (Option ℕ) → Type 0
CapturesCome s true t new =
    (captures_to_come s ≡ captured t.regex.now t.haystack.now new ∷ captures_to_come t) × AreGroups t.regex.now t.haystack.now new
CapturesCome s false t new = (captures_to_come s ≡ []) × (captures_to_come t ≡ [])
