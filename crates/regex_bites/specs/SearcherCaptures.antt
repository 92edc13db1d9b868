-- The groups that an iterator of a searcher has left, and what it leaves of the searcher.
use Rattle.std.specs.Prelude.{cond, List, [], Option, Result}
use Rattle.std.specs.Borrow.{GName, MutBor}
use Rattle.std.specs.declared.alloc.AllocError.{AllocError}
use Rattle.bites_spec.specs.Regex.{Regex}
use Rattle.bites_spec.specs.Captured.{Captured}
use Rattle.bites_spec.specs.Iteration.{captures_after}
use Rattle.bites_spec.specs.Refused.{YieldsUntilRefused}
use Rattle.bites_bytes.specs.Lent.{StepsBy, BorrowsBy}
use Rattle.regex_bites.specs.declared.string.searcher.capture_matches.CaptureMatches.{CaptureMatches}

-- the groups that are still to come: none after memory ran out
abbrev pub captures_left : CaptureMatches → List Captured
captures_left s = cond s.refused [] (captures_after s.searcher.now s.haystack.now s.last)

-- the searcher that it borrows
abbrev pub searcher_of : CaptureMatches → MutBor Regex
searcher_of s = s.searcher

-- `next` took s to t, and returned the first groups that were left, or that memory ran out
abbrev pub Steps : CaptureMatches → Option (Result Captured AllocError) → CaptureMatches → Type 0
Steps = StepsBy searcher_of (YieldsUntilRefused (λ c. c) captures_left)

-- an iterator with these groups left, which borrows the searcher of this name and keeps it along
abbrev pub Borrows : List Captured → GName → Regex → CaptureMatches → Type 0
Borrows = BorrowsBy searcher_of (YieldsUntilRefused {E = AllocError} (λ c. c) captures_left) captures_left
