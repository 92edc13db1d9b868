-- Laws for callers about patterns, places and groups, each proved.
use Rattle.std.specs.Prelude.{◌≡◌, ℕ, ◌/◌, ◌<◌, ◌≤◌, ◌↔◌, ◌==◌, ◌||◌, codes, Bool, true, List, [], ◌∷◌, ◌++◌, length, Option, Ok, IsSome, if◌then◌else◌}
use Rattle.bites_spec.specs.Utf8.{places, start_alone, AreStarts}
use Rattle.bites_spec.specs.Walks.{Among}
use Rattle.bites_spec.specs.Range.{Range, in_ranges}
use Rattle.bites_spec.specs.Class.{Set, is_letter, none, single, between, union, is_scalar, AreCanonical}
use Rattle.bites_spec.specs.RangesOf.{ranges_of}
use Rattle.bites_spec.specs.Look.{start, end}
use Rattle.bites_spec.specs.Tree.{Tree, look, sequence, trees_of, alternation_of}
use Rattle.bites_spec.specs.Match.{Matches}
use Rattle.bites_spec.specs.Found.{Answer, HasMatch, Finds}
use Rattle.bites_spec.specs.Pattern.{Text, Flags, Front, one_of}
use Rattle.bites_spec.specs.Code.{code}
use Rattle.bites_spec.specs.Group.{is_name_start, is_name_part}
use Rattle.bites_spec.specs.Grammar.{Reads, ReadsChoice, at_front}
use Rattle.bites_spec.specs.Reader.{read}
use Rattle.bites_spec.specs.Slots.{group_in, participating}

-- a start within the haystack is a place of it
abbrev pub StartIsPlace : Type 0
StartIsPlace = (hay : List ℕ) (s : ℕ) → s ≤ length hay → Among (places hay s) s

-- a search from s may begin at all places from s on, or at s alone
abbrev pub SearchesHaveStarts : Type 0
SearchesHaveStarts = (hay : List ℕ) (s : ℕ) → AreStarts hay s (places hay s) × AreStarts hay s (start_alone hay s)

-- the start alone is that start, if it lies in the haystack
abbrev pub StartIsAlone : Type 0
StartIsAlone = (hay : List ℕ) (s i : ℕ) → Among (start_alone hay s) i ↔ ((i ≡ s) × (s ≤ length hay))

-- what `\A(?:p)\z` is read as, where p is read as t
abbrev pub anchored : Tree → Tree
anchored t = sequence (trees_of (look start ∷ t ∷ look end ∷ []))

-- it matches somewhere exactly if the tree matches the whole haystack
abbrev pub AnchoredIsWhole : Type 0
AnchoredIsWhole = (t : Tree) (hay : List ℕ) → HasMatch (anchored t) hay (places hay 0) ↔ Matches hay t 0 (length hay)

-- and wherever it matches, it matches the whole haystack
abbrev pub AnchoredMatchesWhole : Type 0
AnchoredMatchesWhole =
    (t : Tree) (hay : List ℕ) (i j : ℕ) → Matches hay (anchored t) i j → (i ≡ 0) × (j ≡ length hay) × Matches hay t 0 (length hay)

-- A pattern that is read up to a closing parenthesis is read between `\A(?:` and `)\z` too: as this tree, and as no other.
abbrev pub AnchoredIsRead : Type 0
AnchoredIsRead =
    (pattern : Text) (flags : Flags) (branches : List Tree) (behind : Front) →
    ReadsChoice (at_front flags) (pattern ++ codes ")\\z") branches behind (codes ")\\z") →
    Reads (codes "\\A(?:" ++ pattern ++ codes ")\\z") flags (anchored (alternation_of branches))
    × ((u : Tree) → Reads (codes "\\A(?:" ++ pattern ++ codes ")\\z") flags u → u ≡ anchored (alternation_of branches))

-- what `\A(?:p)` is read as, where p is read as t
abbrev pub begun : Tree → Tree
begun t = sequence (trees_of (look start ∷ t ∷ []))

-- a search from the start of the haystack alone finds exactly what a search of that tree finds
abbrev pub AnchoredIsBegun : Type 0
AnchoredIsBegun =
    (longest : Bool) (t : Tree) (hay : List ℕ) (o : Option Answer) →
    Finds longest t hay (start_alone hay 0) o ↔ Finds longest (begun t) hay (places hay 0) o

-- A pattern is read as the tree that the grammar's function returns, and as no other. For a pattern that is written in the code,
-- the function computes that tree.
abbrev pub LiteralIsRead : Type 0
LiteralIsRead =
    (pattern : Text) (flags : Flags) (nest_limit : ℕ) (t : Tree) → read ranges_of nest_limit pattern flags ≡ Ok t →
    Reads pattern flags t × ((u : Tree) → Reads pattern flags u → u ≡ t)

-- the characters of a range: one character, or those from the first to the second
abbrev pub range_set : Range → Set
range_set r = if r.0 == r.1 then single r.0 else between r.0 r.1

-- the set with the characters of these ranges, as a class in brackets makes it
abbrev pub with_ranges : Set → List Range → Set
with_ranges set [] = set
with_ranges set (r ∷ ranges) = with_ranges (union set (range_set r)) ranges

-- ranges that rise, with a character between each two, are the canonical ranges of their union
abbrev pub UnionsAreListed : Type 0
UnionsAreListed = (ranges : List Range) → AreCanonical ranges → ranges_of (with_ranges none ranges) ≡ ranges

-- and of each set with exactly their scalar values
abbrev pub RangesAreListed : Type 0
RangesAreListed =
    (set : Set) (ranges : List Range) → AreCanonical ranges → ((c : ℕ) → is_scalar c ≡ true → in_ranges ranges c ≡ set c) → ranges_of set ≡ ranges

-- if as many groups participate as there are, each participates
abbrev pub EachParticipates : Type 0
EachParticipates =
    (slots : List (Option ℕ)) → length slots / 2 ≤ length (participating slots) → (k : ℕ) → k < length slots / 2 → IsSome (group_in slots k)

-- the ASCII characters of names: a letter or `_` may begin one; a letter, a digit, `_`, `.`, `[` or `]` may stand in one
abbrev pub NamesAreAscii : Type 0
NamesAreAscii =
    (c : ℕ) → c < 128 →
    (is_name_start c ≡ (is_letter c || (c == code "_")))
    × (is_name_part c ≡ (is_letter c || between (code "0") (code "9") c || one_of (codes "_.[]") c))
