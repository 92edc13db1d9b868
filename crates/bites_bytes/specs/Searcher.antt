-- The matches that the iterators of a searcher have left, and what they leave of the searcher.
use Rattle.std.specs.Prelude.{◌≡◌, ◌≤◌, ℕ, List, map, Option, Some, None, unwrap_or, MatchOption}
use Rattle.std.specs.Borrow.{GName, MutBor}
use Rattle.std.specs.Iterator.{YieldsFirstBy}
use Rattle.bites_spec.specs.Match.{Span}
use Rattle.bites_spec.specs.Regex.{Regex}
use Rattle.bites_spec.specs.Captured.{Excerpt, excerpt}
use Rattle.bites_spec.specs.Iteration.{spans_after}
use Rattle.bites_bytes.specs.Lent.{KeepsSearcher, StepsBy, BorrowsBy}
use Rattle.bites_bytes.specs.Matched.{excerpt_of}
use Rattle.bites_bytes.specs.declared.bytes.matched.Match.{Match}
use Rattle.bites_bytes.specs.declared.bytes.searcher.matches.Matches.{Matches}

abbrev pub haystack_of : Matches → List ℕ
haystack_of s = s.haystack.now

-- where the match before ended, if there was one
abbrev pub last_of : Matches → Option ℕ
last_of s = s.last

-- the spans of the matches that are still to come
abbrev pub spans_left : Matches → List Span
spans_left s = spans_after s.searcher.now s.haystack.now s.last

-- the matches that are still to come
abbrev pub matches_left : Matches → List Excerpt
matches_left s = map (excerpt s.haystack.now) (spans_left s)

-- the searcher that it borrows
abbrev pub searcher_of : Matches → MutBor Regex
searcher_of s = s.searcher

-- t borrows the searcher that s borrows, and leaves it as it is
abbrev pub Keeps : Matches → Matches → Type 0
Keeps = KeepsSearcher searcher_of

-- `next` took s to t, and returned the first match that was left
abbrev pub Steps : Matches → Option Match → Matches → Type 0
Steps = StepsBy searcher_of (YieldsFirstBy excerpt_of matches_left)

-- the match begins where the one before ended or later, and the search goes on where it ends
abbrev pub Moves : Matches → Option Match → Matches → Type 0
Moves s r t =
    MatchOption r (t.last ≡ s.last)
    (λ m. (unwrap_or s.last 0 ≤ (excerpt_of m).span.start) × (t.last ≡ Some (excerpt_of m).span.end))

-- an iterator before the first match, which borrows the searcher of this name
pub record Begins (name : GName) (r : Regex) (hay : List ℕ) (s : Matches) : Type 0 where
  pub searcher : s.searcher.now ≡ r
  pub same_reference : s.searcher.ghost_name ≡ name
  pub haystack : haystack_of s ≡ hay
  pub last : last_of s ≡ None

-- a step to the next match, in the same haystack
pub record StepsTo (s : Matches) (r : Option Match) (t : Matches) : Type 0 where
  pub steps : Steps s r t
  pub moves : Moves s r t
  pub same : haystack_of t ≡ haystack_of s

-- an iterator with these matches left, which borrows the searcher of this name and keeps it along
abbrev pub Borrows : List Excerpt → GName → Regex → Matches → Type 0
Borrows = BorrowsBy searcher_of (YieldsFirstBy excerpt_of matches_left) matches_left
