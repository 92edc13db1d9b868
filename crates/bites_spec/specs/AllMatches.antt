-- All matches of a regex in a haystack, on its tree.
use Rattle.std.specs.Prelude.{◌≡◌, ℕ, ◌<◌, List, [], ◌∷◌, map, length, Option, Some, None, IsUtf8}
use Rattle.bites_spec.specs.Utf8.{places}
use Rattle.bites_spec.specs.Walks.{Among}
use Rattle.bites_spec.specs.Tree.{Tree}
use Rattle.bites_spec.specs.Match.{Span, Matches}
use Rattle.bites_spec.specs.Found.{NoMatch, IsFirstPlace}
use Rattle.bites_spec.specs.Spans.{Successive, EndsGrow}
use Rattle.bites_spec.specs.Pieces.{AreInOrder}
use Rattle.bites_spec.specs.TextLaws.{HasBorders}
use Rattle.bites_spec.specs.Regex.{Regex, IsCompiled}
use Rattle.bites_spec.specs.Captured.{Captured, FindsSpan, AreGroupsFrom}
use Rattle.bites_spec.specs.Iteration.{spans_in, captures_in}
use Rattle.bites_spec.specs.Replaced.{span_in}

module _ (r : Regex) (hay : List ℕ) where
  -- the spans are all matches: what the tree finds from the start, and then what it finds after each
  abbrev pub AreMatches : List Span → Type 0
  AreMatches = Successive (λ s. s) hay (λ s. FindsSpan r hay (places hay s))

  -- a search of the tree from s finds nothing, or these groups
  abbrev pub FindsCaptures : ℕ → Option Captured → Type 0
  FindsCaptures s None = NoMatch r.tree hay (places hay s)
  FindsCaptures s (Some c) = (c.regex ≡ r) × (c.haystack ≡ hay) × AreGroupsFrom r hay (places hay s) c.slots

  -- these are the groups of all matches: what the tree finds from the start, and then what it finds after each
  abbrev pub AreCaptures : List Captured → Type 0
  AreCaptures = Successive span_in hay FindsCaptures

module _ (t : Tree) (hay : List ℕ) where
  -- No match begins after e at a place that Before allows. If one begins at e, the empty text matches there; it is no match of
  -- its own, because a match ended at e.
  pub record NoMatchBetween (e : ℕ) (Before : ℕ → Type 0) : Type 0 where
    pub none : (k : ℕ) → Among (places hay e) k → e < k → Before k → (j : ℕ) → Matches hay t k j → ⊥
    pub empty : Before e → (j : ℕ) → Matches hay t e j → Matches hay t e e

  -- the spans after a match that ends at e: each is a match and ends after the one before, no match begins between two of
  -- them, and none begins after the last
  abbrev pub FollowClosely : ℕ → List Span → Type 0
  FollowClosely e [] = NoMatchBetween e (λ k. Unit {0})
  FollowClosely e (s ∷ ss) =
      NoMatchBetween e (λ k. k < s.start) × Matches hay t s.start s.end × (e < s.end) × FollowClosely s.end ss

  -- the first span begins where the tree first matches, and the others follow closely
  abbrev pub LeaveNoneOut : List Span → Type 0
  LeaveNoneOut [] = NoMatch t hay (places hay 0)
  LeaveNoneOut (s ∷ ss) = IsFirstPlace t hay (places hay 0) s.start × Matches hay t s.start s.end × FollowClosely s.end ss

-- the spans of all matches of a regex are the matches of its tree
abbrev pub FindsAreSuccessive : Type 0
FindsAreSuccessive = (r : Regex) → IsCompiled r → (hay : List ℕ) → AreMatches r hay (spans_in r hay)

-- the groups of all matches of a regex are those that its tree finds
abbrev pub GroupsAreSuccessive : Type 0
GroupsAreSuccessive = (r : Regex) → IsCompiled r → (hay : List ℕ) → AreCaptures r hay (captures_in r hay)

-- if these are the groups of all matches, their spans are all matches
abbrev pub CapturesAreMatches : Type 0
CapturesAreMatches = (r : Regex) (hay : List ℕ) (cs : List Captured) → AreCaptures r hay cs → AreMatches r hay (map span_in cs)

-- nothing matches between two matches, before the first or after the last
abbrev pub NoneIsLeftOut : Type 0
NoneIsLeftOut = (r : Regex) (hay : List ℕ) (ss : List Span) → AreMatches r hay ss → LeaveNoneOut r.tree hay ss

-- all matches stand in order and without overlap, and each ends after the one before
abbrev pub MatchesStandApart : Type 0
MatchesStandApart =
    (r : Regex) (hay : List ℕ) (ss : List Span) → AreMatches r hay ss →
    AreInOrder (length hay) 0 ss × ((x : Span) (xs : List Span) → ss ≡ x ∷ xs → EndsGrow x.end xs)

-- each of the spans begins and ends at a border
abbrev pub HaveBorders : List ℕ → List Span → Type 0
HaveBorders hay [] = Unit {0}
HaveBorders hay (s ∷ ss) = HasBorders hay s × HaveBorders hay ss

-- all matches in a text begin and end at borders
abbrev pub MatchesHaveBorders : Type 0
MatchesHaveBorders = (r : Regex) (hay : List ℕ) (ss : List Span) → IsUtf8 hay → AreMatches r hay ss → HaveBorders hay ss
