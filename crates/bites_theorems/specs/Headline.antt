-- What the headline says of what a search returns.
use Rattle.std.specs.Prelude.{◌≡◌, ◌↔◌, ℕ, ◌≤◌, Bool, true, false, List, length, Option, Some, None, is_some, option_map, IsSome, IsTrue, IfSome, Result, IfOk, IsCharBoundary}
use Rattle.bites_spec.specs.Utf8.{start_alone}
use Rattle.bites_spec.specs.Tree.{Tree, IsPlain}
use Rattle.bites_spec.specs.Match.{Span, Mark, Matches, Parse, groups}
use Rattle.bites_spec.specs.Preference.{parses}
use Rattle.bites_spec.specs.Counts.{Room}
use Rattle.bites_spec.specs.Found.{NoMatch, HasMatch, IsFirstPlace, IsLeastEnd, head_of, first_ending, parse_to}
use Rattle.bites_spec.specs.AllMatches.{AreMatches, LeaveNoneOut, HaveBorders}
use Rattle.bites_spec.specs.TextLaws.{HasBorders}
use Rattle.bites_spec.specs.Full.{IsFullMatch}
use Rattle.bites_spec.specs.Slots.{group_in}
use Rattle.bites_spec.specs.Regex.{Regex}
use Rattle.bites_spec.specs.Captured.{Captured, Excerpt}
use Rattle.bites_machine.specs.Inputs.{starts_of}
use Rattle.bites_bytes.specs.Calls.{BothFit, MakesBy, SearchedBy}
use Rattle.regex_bites.specs.Borders.{GroupsAtBorders, MayStart}
use Rattle.bites_theorems.specs.Promises.{Agree, IsNoLater, StandApart}
use Rattle.bites_theorems.specs.declared.calls.answers.Answers.{Answers}

module _ (t : Tree) (hay : List ℕ) (g : Span) where
  -- the tree matches from its start to its end
  abbrev pub MatchesOver : Type 0
  MatchesOver = Matches hay t g.start g.end

  -- it ends where the parse does that the pattern prefers from its start
  abbrev pub EndsAsPreferred : Type 0
  EndsAsPreferred = (ms : List Mark) × (head_of (parses hay t g.start) ≡ Some (parse_to g.end ms))

  -- no match from its start ends after it
  abbrev pub EndsLast : Type 0
  EndsLast = (l : ℕ) → Matches hay t g.start l → l ≤ g.end

module _ (t : Tree) (hay starts : List ℕ) where
  -- The slots hold the groups of one parse, and Q holds for it. The parse begins at the first of the starts from which the tree
  -- matches.
  pub record AreOfParse (Q : (i j : ℕ) → List Mark → Type 0) (slots : List (Option ℕ)) : Type 0 where
    pub start : ℕ
    pub end : ℕ
    pub marks : List Mark
    pub first : IsFirstPlace t hay starts start
    pub parse : Parse hay t start end marks
    pub groups : (k : ℕ) → group_in slots k ≡ groups start end marks k
    pub chosen : Q start end marks

  -- of one parse, whichever it is
  abbrev pub AreOfOneParse : List (Option ℕ) → Type 0
  AreOfOneParse = AreOfParse (λ i j ms. Unit {0})

  -- of the parse that the pattern prefers
  abbrev pub AreOfPreferredParse : List (Option ℕ) → Type 0
  AreOfPreferredParse = AreOfParse (λ i j ms. head_of (parses hay t i) ≡ Some (parse_to j ms))

  -- of a parse to the greatest end
  abbrev pub AreOfLongestParse : List (Option ℕ) → Type 0
  AreOfLongestParse = AreOfParse (λ i j ms. (l : ℕ) → Matches hay t i l → l ≤ j)

  -- of the one that the pattern prefers among the parses to that end
  abbrev pub AreOfPreferredLongestParse : List (Option ℕ) → Type 0
  AreOfPreferredLongestParse =
      AreOfParse (λ i j ms. ((l : ℕ) → Matches hay t i l → l ≤ j) × (first_ending j (parses hay t i) ≡ Some (parse_to j ms)))

module _ (regex : Regex) (hay starts : List ℕ) where
  -- A match that begins at the first of the starts from which the tree matches. If the longest match is asked for, it
  -- ends last; otherwise, if the tree is plain, it ends as the pattern prefers.
  pub record IsFirstMatch (g : Span) : Type 0 where
    pub first : IsFirstPlace regex.tree hay starts g.start
    pub matches : MatchesOver regex.tree hay g
    pub preferred : regex.leftmost_longest ≡ false → IsPlain regex.tree → EndsAsPreferred regex.tree hay g
    pub longest : regex.leftmost_longest ≡ true → EndsLast regex.tree hay g

  -- the search returns such a match, or the tree matches from no start
  abbrev pub MatchHeadline : Option Span → Type 0
  MatchHeadline None = NoMatch regex.tree hay starts
  MatchHeadline (Some g) = IsFirstMatch g

  -- In the slots stand the groups of one parse from the first of the starts from which the tree matches. If the longest match is
  -- asked for, it is a longest parse, and if the tree is plain too, the preferred of those; otherwise, if the tree is plain, it
  -- is the preferred parse.
  pub record AreFirstGroups (slots : List (Option ℕ)) : Type 0 where
    pub one_parse : AreOfOneParse regex.tree hay starts slots
    pub preferred : regex.leftmost_longest ≡ false → IsPlain regex.tree → AreOfPreferredParse regex.tree hay starts slots
    pub longest : regex.leftmost_longest ≡ true → AreOfLongestParse regex.tree hay starts slots
    pub preferred_longest : regex.leftmost_longest ≡ true → IsPlain regex.tree → AreOfPreferredLongestParse regex.tree hay starts slots

  -- captures that this regex found in this haystack, with such groups
  pub record AreFirstCaptures (c : Captured) : Type 0 where
    pub regex_is : c.regex ≡ regex
    pub haystack_is : c.haystack ≡ hay
    pub groups : AreFirstGroups c.slots

  -- the search returns such captures, or the tree matches from no start
  abbrev pub Headline : Option Captured → Type 0
  Headline None = NoMatch regex.tree hay starts
  Headline (Some c) = AreFirstCaptures c

module _ (regex : Regex) (hay : List ℕ) where
  -- In the slots stand the groups of one parse of the whole haystack; if the tree is plain, of the one that the pattern prefers.
  pub record AreFullGroups (slots : List (Option ℕ)) : Type 0 where
    pub one_parse : AreOfParse regex.tree hay (start_alone hay 0) (λ i j ms. j ≡ length hay) slots
    pub preferred : IsPlain regex.tree →
        AreOfParse regex.tree hay (start_alone hay 0)
        (λ i j ms. (j ≡ length hay) × (first_ending (length hay) (parses hay regex.tree i) ≡ Some (parse_to j ms))) slots

  -- captures that this regex found in this haystack, with such groups
  pub record AreFullCaptures (c : Captured) : Type 0 where
    pub regex_is : c.regex ≡ regex
    pub haystack_is : c.haystack ≡ hay
    pub groups : AreFullGroups c.slots

  -- the search returns such captures, or the tree does not match the whole haystack
  abbrev pub FullHeadline : Option Captured → Type 0
  FullHeadline None = IsFullMatch regex.tree hay → ⊥
  FullHeadline (Some c) = AreFullCaptures c

  -- The search says whether the tree matches the whole haystack, and returns the groups of such a match, each unless memory runs out.
  pub record AreFullAnswers {E : Type 0} (there : Result Bool E) (c : Result (Option Captured) E) : Type 0 where
    pub is_match : IfOk there (λ b. IsTrue b ↔ IsFullMatch regex.tree hay)
    pub captures : IfOk c FullHeadline

  -- over texts the groups also begin and end at character borders
  pub record AreFullTextAnswers {E : Type 0} (there : Result Bool E) (c : Result (Option Captured) E) : Type 0 where
    pub answers : AreFullAnswers there c
    pub borders : IfOk c (λ o. IfSome o (λ x. GroupsAtBorders hay x.slots))

  -- the spans are all matches of the tree, nothing matches between two of them, and they stand apart
  pub record AreAllMatches (ss : List Span) : Type 0 where
    pub on_tree : AreMatches regex hay ss
    pub none_between : LeaveNoneOut regex.tree hay ss
    pub apart : StandApart (length hay) ss

  -- over texts they also begin and end at character borders
  pub record AreAllTextMatches (ss : List Span) : Type 0 where
    pub all : AreAllMatches ss
    pub borders : HaveBorders hay ss

  -- a search with a cache may begin at the place, and write these slots
  pub record MayRead (s : ℕ) (room : Room) (slots : List (Option ℕ)) : Type 0 where
    pub border : MayStart hay s
    pub fit : BothFit regex room slots

module _ {M : Type 0} (view : M → Excerpt) (regex : Regex) (hay : List ℕ) where
  -- A search with a cache from s on, or anchored at s, returns a match exactly if the tree matches. The match is group 0 in the
  -- slots, and the groups there are those of the headline. The search visited what `SearchedBy` says, and `MakesBy` says how many
  -- searches of the program it took.
  pub record SearchHeadline (anchored : Bool) (s : ℕ) (m : Option M) (slots : List (Option ℕ)) (old new : Room) : Type 0 where
    pub exactly : IsSome m ↔ HasMatch regex.tree hay (starts_of hay anchored s)
    pub whole : IfSome m (λ x. group_in slots 0 ≡ Some (view x).span)
    pub headline : IfSome m (λ x. AreFirstGroups regex hay (starts_of hay anchored s) slots)
    pub searched : SearchedBy anchored regex hay s (is_some m) old new
    pub searches : MakesBy anchored regex old new

  -- over texts the groups also begin and end at character borders
  pub record TextSearchHeadline (anchored : Bool) (s : ℕ) (m : Option M) (slots : List (Option ℕ)) (old new : Room) : Type 0 where
    pub search : SearchHeadline anchored s m slots old new
    pub borders : IfSome m (λ x. GroupsAtBorders hay slots)

  module _ (starts : List ℕ) where
    -- each search from these starts returns what the headline says, unless memory runs out, and the answers agree
    pub record AreAnswers (a : Answers M Captured) : Type 0 where
      pub is_match : IfOk a.is_match (λ there. IsTrue there ↔ HasMatch regex.tree hay starts)
      pub find : IfOk a.find (λ m. MatchHeadline regex hay starts (option_map (λ x. (view x).span) m))
      pub captures : IfOk a.captures (Headline regex hay starts)
      pub agree : Agree view a

    -- over texts the match and its groups also begin and end at character borders
    pub record AreTextAnswers (a : Answers M Captured) : Type 0 where
      pub answers : AreAnswers a
      pub match_borders : IfOk a.find (λ m. IfSome m (λ x. HasBorders hay (view x).span))
      pub group_borders : IfOk a.captures (λ c. IfSome c (λ x. GroupsAtBorders hay x.slots))

    -- a search returns the least end of a match, and another one a match that agrees, each unless memory runs out
    pub record AnswersEnd {E : Type 0} (end : Result (Option ℕ) E) (m : Result (Option M) E) : Type 0 where
      pub least : IfOk end (IsLeastEnd regex.tree hay starts)
      pub soonest : IfOk end (λ e. IfOk m (λ x. IsNoLater e (option_map (λ y. (view y).span.end) x)))

    -- over texts the end is also at a character border
    pub record AnswersTextEnd {E : Type 0} (end : Result (Option ℕ) E) (m : Result (Option M) E) : Type 0 where
      pub answers : AnswersEnd end m
      pub border : IfOk end (λ e. IfSome e (IsCharBoundary hay))
