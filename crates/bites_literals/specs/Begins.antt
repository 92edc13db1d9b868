-- From where a search for a match has to begin.
use Rattle.std.specs.Prelude.{◌≡◌, ℕ, ◌+◌, ◌-◌, ◌<◌, ◌≤◌, ◌⊎◌, max, Bool, true, List, ◌++◌, length, slice_index, Option, Some, None, IfSome}
use Rattle.bites_spec.specs.Walks.{Among}
use Rattle.bites_spec.specs.Utf8.{places}
use Rattle.bites_spec.specs.Tree.{Tree, IsPlain}
use Rattle.bites_spec.specs.Match.{Matches}
use Rattle.bites_spec.specs.Found.{NoMatch, head_of}
use Rattle.bites_spec.specs.Preference.{ParseTo, parses}
use Rattle.bites_scan.specs.Literal.{Needle}
use Rattle.bites_scan.specs.declared.literal.Outcome.{Outcome}
use Rattle.bites_scan.specs.declared.literal.Outcome.TheVariants.{Found, Tired}
use Rattle.bites_scan.specs.declared.literal.Outcome.TheVariants as literal
use Rattle.bites_literals.specs.declared.ascii.AsciiSet.{AsciiSet}
use Rattle.bites_literals.specs.declared.prefilter.Begin.{Begin}
use Rattle.bites_literals.specs.declared.prefilter.Begin.TheVariants.{Nowhere, From, Match}
use Rattle.bites_literals.specs.declared.prefilter.End.{End}
use Rattle.bites_literals.specs.declared.prefilter.Near.{Near}
use Rattle.bites_literals.specs.declared.prefilter.Prefilter.{Prefilter}
use Rattle.bites_literals.specs.declared.prefilter.Reach.{Reach}
use Rattle.bites_literals.specs.declared.prefilter.Reach.TheVariants.{Bytes, While, Haystack}
use Rattle.bites_literals.specs.Between.{IsFlagged, IsBackOver}
use Rattle.bites_literals.specs.Ascii.{Has}
use Rattle.bites_literals.specs.ByteRun.{IsByteRunOf}
use Rattle.bites_literals.specs.Choice.{IsChoice}
use Rattle.bites_literals.specs.Facts.{EndsAtEnd, IsMost}
use Rattle.bites_literals.specs.FixedWidth.{IsFixedWidth}
use Rattle.bites_literals.specs.Texts.{EndsWith, Holds, Stands, bytes_of}

-- how many bytes of a match stand before an offset at most, if there is a bound
abbrev pub before_of : Reach → Option ℕ
before_of (Bytes n) = Some n
before_of (While between) = None
before_of Haystack = None

-- each match of the tree holds the bytes that the reach says
abbrev pub StaysIn : Reach → Tree → Type 0
StaysIn (Bytes n) t = Unit {0}
StaysIn (While between) t = (hay : List ℕ) (i j : ℕ) → Matches hay t i j → (k : ℕ) → i ≤ k → k < j → slice_index hay k < 128 → IsFlagged between.bytes (slice_index hay k)
StaysIn Haystack t = Unit {0}

-- each match of the tree is the literal, which is a match wherever it stands
pub record IsOnly (t : Tree) (literal : Needle) : Type 0 where
  pub matches : (hay : List ℕ) (i : ℕ) → Stands literal.caseless literal.bytes hay i → Matches hay t i (i + length literal.bytes)
  pub len : (hay : List ℕ) (i j : ℕ) → Matches hay t i j → j ≡ i + length literal.bytes

-- each match of the tree holds the literal, near enough
pub record IsNear (t : Tree) (near : Near) : Type 0 where
  pub some : 0 < length near.literal.bytes
  pub holds : (hay : List ℕ) (i j : ℕ) → Matches hay t i j → Holds near.literal.caseless near.literal.bytes (before_of near.reach) hay i j
  pub stays : StaysIn near.reach t
  pub only : near.is_match ≡ true → IsOnly t near.literal

-- each match of the tree ends at the end of the haystack and with the text, near enough to its beginning
pub record IsEnd (t : Tree) (end : End) : Type 0 where
  pub ends : EndsAtEnd (λ hay i j. Matches hay t i j)
  pub suffix : (hay : List ℕ) (i j : ℕ) → Matches hay t i j → EndsWith end.suffix.caseless (bytes_of end.suffix) hay i j
  pub most : IsMost (λ hay i j. Matches hay t i j) (before_of end.reach)
  pub stays : StaysIn end.reach t

-- the prefilter is one for the tree
pub record IsPrefilter (t : Tree) (p : Prefilter) : Type 0 where
  pub end : IfSome p.end (IsEnd t)
  pub near : IfSome p.near (IsNear t)
  pub choice : IfSome p.choice (IsChoice t)
  pub run : IfSome p.run (IsByteRunOf t)
  pub fixed : IfSome p.fixed (λ f. IsFixedWidth t f.value)

-- each match of the tree begins at the start of the haystack
abbrev pub BeginsAtStart : Tree → Type 0
BeginsAtStart t = (hay : List ℕ) (i j : ℕ) → Matches hay t i j → i ≡ 0

-- p is a place of the search, and the tree matches from no place before it
pub record NoneBefore (t : Tree) (hay : List ℕ) (start p : ℕ) : Type 0 where
  pub place : Among (places hay start) p
  pub none_before : (i : ℕ) → Among (places hay start) i → i < p → (j : ℕ) → Matches hay t i j → ⊥

-- the preferred match from i ends at j, and no match from there is longer
pub record IsPreferred (t : Tree) (hay : List ℕ) (i j : ℕ) : Type 0 where
  pub plain : IsPlain t
  pub head : (w : ParseTo) → head_of (parses hay t i) ≡ Some w → w.end ≡ j
  pub greatest : (l : ℕ) → Matches hay t i l → l ≤ j

-- the tree matches first from i, and from there to j; if the end is asked for, to j alone, or to j by preference
pub record IsFirstMatch (with_end : Bool) (t : Tree) (hay : List ℕ) (start i j : ℕ) : Type 0 where
  pub first : NoneBefore t hay start i
  pub matches : Matches hay t i j
  pub chosen : with_end ≡ true → ((l : ℕ) → Matches hay t i l → l ≡ j) ⊎ IsPreferred t hay i j

-- nothing matches, or nothing before the place, or this is the first match
abbrev pub BeginsBy : (with_end : Bool) → Tree → List ℕ → ℕ → Begin → Type 0
BeginsBy with_end t hay start Nowhere = NoMatch t hay (places hay start)
BeginsBy with_end t hay start (From p) = NoneBefore t hay start p
BeginsBy with_end t hay start (Match i j) = IsFirstMatch with_end t hay start i j

-- from where a search explores: from behind the end if nothing matches
abbrev pub place_of : List ℕ → Begin → ℕ
place_of hay Nowhere = length hay + 1
place_of hay (From p) = p
place_of hay (Match i j) = i

-- the place, if there is one, is no later than this
abbrev pub IsWithin : Begin → ℕ → Type 0
IsWithin Nowhere n = Unit {0}
IsWithin (From p) n = p ≤ n
IsWithin (Match i j) n = (i ≤ j) × (j ≤ n)

-- the byte is one of those that continue a character
abbrev pub Continues : ℕ → Type 0
Continues byte = (128 ≤ byte) × (byte < 192)

-- a byte stands at the offset with which a piece begins, or it is the start
pub record IsBackAtPiece (hay : List ℕ) (start from at : ℕ) : Type 0 where
  pub onward : start ≤ at
  pub back : at ≤ from
  pub stands : (at ≡ start) ⊎ ((at < length hay) × (Continues (slice_index hay at) → ⊥))

-- the reach says no more than that so many bytes stand between, or that a match holds no other bytes of ASCII than these
abbrev pub IsReachOf : Option ℕ → AsciiSet → Reach → Type 0
IsReachOf before ascii (Bytes n) = before ≡ Some n
IsReachOf before ascii (While between) = (byte : ℕ) → byte < 128 → Has ascii byte → IsFlagged between.bytes byte
IsReachOf before ascii Haystack = Unit {0}

-- a place so far back from an offset as the reach says, or further
abbrev pub IsBack : Reach → List ℕ → (start from at : ℕ) → Type 0
IsBack (Bytes n) hay start from at = IsBackAtPiece hay start (max (from - n) start) at
IsBack (While between) hay start from at = IsBackOver between.bytes hay start from at
IsBack Haystack hay start from at = at ≡ start

-- what a search for a literal has come to lies there
abbrev pub LiesWithin : Outcome → (start end : ℕ) → Type 0
LiesWithin literal.Nowhere start end = Unit {0}
LiesWithin (Found i j) start end = (start ≤ i) × (i ≤ j) × (j ≤ end)
LiesWithin (Tired at) start end = (start ≤ at) × (at ≤ end)

-- a place so far back from what a search for a literal has come to, or the literal that it found at such a place, if that is a match
abbrev pub BeginsWithin : Reach → Bool → List ℕ → ℕ → Outcome → Begin → Type 0
BeginsWithin reach is_match hay start literal.Nowhere begin = begin ≡ Nowhere
BeginsWithin reach is_match hay start (Found i j) Nowhere = ⊥
BeginsWithin reach is_match hay start (Found i j) (From p) = IsBack reach hay start i p
BeginsWithin reach is_match hay start (Found i j) (Match p q) = (is_match ≡ true) × (p ≡ i) × (q ≡ j) × IsBack reach hay start i i
BeginsWithin reach is_match hay start (Tired at) Nowhere = ⊥
BeginsWithin reach is_match hay start (Tired at) (From p) = IsBack reach hay start at p
BeginsWithin reach is_match hay start (Tired at) (Match p q) = ⊥

-- no part of the haystack that lies from `start` on and ends before `end` matches, if it is searched as a haystack of its own
abbrev pub NoPartMatches : Tree → List ℕ → (start end : ℕ) → Type 0
NoPartMatches t hay start end =
    (before part after : List ℕ) → hay ≡ before ++ (part ++ after) → start ≤ length before → length before + length part < end →
    NoMatch t part (places part 0)

-- no part matches that ends before this offset, or none at all
abbrev pub IsCandidate : Tree → List ℕ → ℕ → Option ℕ → Type 0
IsCandidate t hay start None = NoPartMatches t hay start (length hay + 1)
IsCandidate t hay start (Some p) = (start ≤ p) × (p ≤ length hay) × NoPartMatches t hay start p
