-- The laws of haystacks that are texts, each proved.
use Rattle.std.specs.Prelude.{◌≡◌, ℕ, ◌+◌, ◌≤◌, ◌↔◌, List, Some, IsUtf8, IsCharBoundary}
use Rattle.bites_spec.specs.Utf8.{piece, places, AreStarts}
use Rattle.bites_spec.specs.Walks.{Among}
use Rattle.bites_spec.specs.Tree.{Tree}
use Rattle.bites_spec.specs.Match.{Span, span, Mark, Matches, Parse, groups}
use Rattle.bites_spec.specs.Found.{Answer, FoundSome, IsLeastEnd}

-- in a text, from a character border on, the places are the character borders
abbrev pub PlacesAreBorders : Type 0
PlacesAreBorders =
    (hay : List ℕ) (s : ℕ) → IsUtf8 hay → IsCharBoundary hay s → (i : ℕ) → Among (places hay s) i ↔ ((s ≤ i) × IsCharBoundary hay i)

-- the piece at a border ends at one
abbrev pub PiecesEndAtBorders : Type 0
PiecesEndAtBorders = (hay : List ℕ) (i : ℕ) → IsUtf8 hay → IsCharBoundary hay i → IsCharBoundary hay (i + (piece hay i).len)

-- a span begins and ends at a border
abbrev pub HasBorders : List ℕ → Span → Type 0
HasBorders hay g = IsCharBoundary hay g.start × IsCharBoundary hay g.end

-- what a tree matches from a border on ends at one
abbrev pub MatchesEndAtBorders : Type 0
MatchesEndAtBorders =
    (hay : List ℕ) (t : Tree) (i j : ℕ) → IsUtf8 hay → IsCharBoundary hay i → Matches hay t i j → IsCharBoundary hay j

-- the groups of a parse from a border on begin and end at borders
abbrev pub GroupsHaveBorders : Type 0
GroupsHaveBorders =
    (hay : List ℕ) (t : Tree) (i j : ℕ) (ms : List Mark) → IsUtf8 hay → IsCharBoundary hay i → Parse hay t i j ms →
    (k : ℕ) (g : Span) → groups i j ms k ≡ Some g → HasBorders hay g

-- what a search from a border on finds begins and ends at borders, and so do its groups
abbrev pub FoundHasBorders : Type 0
FoundHasBorders =
    (t : Tree) (hay : List ℕ) (s : ℕ) (starts : List ℕ) → AreStarts hay s starts → (a : Answer) → IsUtf8 hay → IsCharBoundary hay s →
    FoundSome t hay starts (Some a) →
    HasBorders hay (span a.start a.end) × ((k : ℕ) (g : Span) → a.group k ≡ Some g → HasBorders hay g)

-- the least end of a match from a border on is a border
abbrev pub LeastEndIsBorder : Type 0
LeastEndIsBorder =
    (t : Tree) (hay : List ℕ) (s : ℕ) (starts : List ℕ) → AreStarts hay s starts → (j : ℕ) → IsUtf8 hay → IsCharBoundary hay s →
    IsLeastEnd t hay starts (Some j) → IsCharBoundary hay j
