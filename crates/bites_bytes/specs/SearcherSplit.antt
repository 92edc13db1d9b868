-- The pieces that an iterator of a searcher has left, and what it leaves of the searcher.
use Rattle.std.specs.Prelude.{ℕ, List, Option, unwrap_or}
use Rattle.std.specs.Borrow.{GName, Bor, MutBor}
use Rattle.std.specs.Iterator.{YieldsFirstBy}
use Rattle.bites_spec.specs.Regex.{Regex}
use Rattle.bites_bytes.specs.Lent.{StepsBy, BorrowsBy}
use Rattle.bites_bytes.specs.Split.{bytes_at, pieces_of}
use Rattle.bites_bytes.specs.Searcher as matches
use Rattle.bites_bytes.specs.declared.bytes.searcher.split.Split.{Split}

-- the pieces that are still to come
abbrev pub pieces_left : Split → List (List ℕ)
pieces_left s = pieces_of s.matches.haystack.now (unwrap_or s.matches.last 0) s.done (matches.spans_left s.matches)

-- the searcher that it borrows
abbrev pub searcher_of : Split → MutBor Regex
searcher_of s = matches.searcher_of s.matches

-- `next` took s to t, and returned the first piece that was left
abbrev pub Steps : Split → Option (Bor (List ℕ)) → Split → Type 0
Steps = StepsBy searcher_of (YieldsFirstBy bytes_at pieces_left)

-- an iterator with these pieces left, which borrows the searcher of this name and keeps it along
abbrev pub Borrows : List (List ℕ) → GName → Regex → Split → Type 0
Borrows = BorrowsBy searcher_of (YieldsFirstBy bytes_at pieces_left) pieces_left
