-- What the calls of a regex promise: a word for each promise.
use Rattle.std.specs.Prelude.{◌≡◌, ◌↔◌, ℕ, ◌+◌, ◌*◌, ◌<◌, ◌≤◌, ◌⊎◌, Bool, true, false, IsTrue, List, [], ◌∷◌, Option, Some, None, is_some, option_map, unwrap_or, length, IfSome, MatchOption, MatchResult, Result, IfOk, OnOk}
use Rattle.bites_spec.specs.Walks.{Among}
use Rattle.bites_spec.specs.Utf8.{places, start_alone}
use Rattle.bites_spec.specs.Match.{Matches}
use Rattle.bites_spec.specs.Counts.{Room, Record, IsBounded, IsWalked, fit_of}
use Rattle.bites_spec.specs.Slots.{group_in}
use Rattle.bites_spec.specs.Spans.{LiesFrom}
use Rattle.bites_spec.specs.Found.{NoMatch, HasMatch, IsLeastEnd}
use Rattle.bites_spec.specs.Regex.{Regex, slots_at}
use Rattle.bites_spec.specs.Captured.{Excerpt, Captured, captured, AreGroups, AreGroupsFrom, FindsGroups, FindsMatch}
use Rattle.bites_spec.specs.Full.{full_slots, FindsGroupsFull, IsFullMatch}
use Rattle.bites_spec.specs.Iteration.{spans_after, captures_after}
use Rattle.bites_machine.specs.Inputs.{starts_of}
pub use Rattle.bites_literals.specs.Begins.{NoPartMatches, IsCandidate}

-- a fact, and what is as it was
pub record KeepsAnd {A : Type 0} (old new : A) (fact : Type 0) : Type 0 where
  pub found : fact
  pub same : new ≡ old

-- the cache and the slots fit the regex: searches may write the slots
pub record BothFit (r : Regex) (room : Room) (slots : List (Option ℕ)) : Type 0 where
  pub cache : room.fits ≡ fit_of r.program
  pub locations : length slots ≡ r.program.slots

-- a fact, and both fit what they fitted
pub record FitAnd (old new : Room) (before after : List (Option ℕ)) (fact : Type 0) : Type 0 where
  pub found : fact
  pub len : length after ≡ length before
  pub fits : new.fits ≡ old.fits

-- searches were made with the room: one at least, and so many at most
pub record Makes (n : ℕ) (old new : Room) : Type 0 where
  pub some : old.searches < new.searches
  pub most : new.searches ≤ old.searches + n

-- so many were made at most, or none
pub record MakesAtMost (n : ℕ) (old new : Room) : Type 0 where
  pub kept : old.searches ≤ new.searches
  pub most : new.searches ≤ old.searches + n

-- a call that may be refused memory made so many, and at most so many where it was refused
abbrev pub MakesUntilRefused : {A E : Type 0} → Result A E → ℕ → Room → Room → Type 0
MakesUntilRefused result n old new = MatchResult result (λ _. Makes n old new) (λ _. MakesAtMost n old new)

-- So many searches are enough for a match, by whether the longest one is asked for and whether it begins at one place: the longest
-- one from a place on begins where the first one does, which may be searched for before.
abbrev pub searches_for : (longest anchored : Bool) → ℕ
searches_for false anchored = 1
searches_for true true = 1
searches_for true false = 2

-- a search for the match of a regex takes so many at most, by whether it is anchored
abbrev pub MakesBy : (anchored : Bool) → Regex → Room → Room → Type 0
MakesBy anchored r = Makes (searches_for r.leftmost_longest anchored)

-- One for the first of all matches takes no more either. One for the match after another may search again behind an empty match that
-- is dropped.
abbrev pub MakesNext : Regex → (last : Option ℕ) → Room → Room → Type 0
MakesNext r None = MakesBy false r
MakesNext r (Some e) = Makes (2 * searches_for r.leftmost_longest false)

-- a fact, after a search for the next match with the room, which fits the same programs as before
pub record AfterNext (r : Regex) (last : Option ℕ) (old new : Room) (fact : Type 0) : Type 0 where
  pub found : fact
  pub fits : new.fits ≡ old.fits
  pub searches : MakesNext r last old new

-- where the regex has no table, each visit was a reading of a state
abbrev pub ReadsEach : Regex → Record → Type 0
ReadsEach r c = r.has_table ≡ false → c.read ≡ c.visits

-- a search of the regex from s that may begin at these starts was made with the room: it fits the same programs as before, and
-- shows what the search visited
pub record Searched (r : Regex) (hay : List ℕ) (s : ℕ) (starts : List ℕ) (found : Bool) (old new : Room) : Type 0 where
  pub fits : new.fits ≡ old.fits
  pub walked : IsWalked r.program hay s starts found new.walked
  pub read : ReadsEach r new.walked

-- a search from s may explore from p on: the tree matches from no place before p. Where searches look for no literal, p is s.
pub record BeginsAt (r : Regex) (hay : List ℕ) (s p : ℕ) : Type 0 where
  pub place : Among (places hay s) p ⊎ (length hay < p)
  pub none_before : (i : ℕ) → Among (places hay s) i → i < p → (j : ℕ) → Matches hay r.tree i j → ⊥
  pub plain : r.prefilter ≡ false → p ≡ s

-- a search of the regex from s on explored from such a place on: it kept the bounds from there, and visited what it had to
pub record WalkedFrom (r : Regex) (hay : List ℕ) (s : ℕ) (found : Bool) (c : Record) : Type 0 where
  pub place : ℕ
  pub begins : BeginsAt r hay s place
  pub walked : IsWalked r.program hay place (places hay place) found c

-- it was made with the room
pub record SearchedFrom (r : Regex) (hay : List ℕ) (s : ℕ) (found : Bool) (old new : Room) : Type 0 where
  pub fits : new.fits ≡ old.fits
  pub walked : WalkedFrom r hay s found new.walked
  pub read : ReadsEach r new.walked

-- the same, of which only the bounds are known
pub record SearchedWithin (r : Regex) (hay : List ℕ) (s : ℕ) (old new : Room) : Type 0 where
  pub fits : new.fits ≡ old.fits
  pub bounded : IsBounded r.program hay s new.walked
  pub read : ReadsEach r new.walked

-- a search of the regex from these starts finds these groups, or none
pub record FindsCaptured (r : Regex) (hay starts : List ℕ) (c : Option Captured) : Type 0 where
  pub found : c ≡ option_map (captured r hay) (slots_at r hay starts)
  pub on_tree : FindsGroups r hay starts (option_map (λ x. x.slots) c)
  pub regex : IfSome c (λ x. x.regex ≡ r)
  pub haystack : IfSome c (λ x. x.haystack ≡ hay)

-- the same for a match of the whole haystack
pub record FindsCapturedFull (r : Regex) (hay : List ℕ) (c : Option Captured) : Type 0 where
  pub found : c ≡ option_map (captured r hay) (full_slots r hay)
  pub on_tree : FindsGroupsFull r hay (option_map (λ x. x.slots) c)
  pub regex : IfSome c (λ x. x.regex ≡ r)
  pub haystack : IfSome c (λ x. x.haystack ≡ hay)

-- the slots, if a match was found whose groups stand there
abbrev pub groups_if : Bool → List (Option ℕ) → Option (List (Option ℕ))
groups_if true slots = Some slots
groups_if false slots = None

-- a search of the regex from these starts finds this part of the haystack, or none, and writes its groups over the old slots
pub record ReadsGroups (r : Regex) (hay starts : List ℕ) (m : Option Excerpt) (old new : List (Option ℕ)) : Type 0 where
  pub found : FindsMatch r hay starts m
  pub groups : new ≡ unwrap_or (slots_at r hay starts) old
  pub on_tree : MatchOption m (NoMatch r.tree hay starts) (λ x. AreGroupsFrom r hay starts new)

-- a part of the haystack is the first of the matches after one that ends at `last`, or of all; the others follow it
pub record IsNext (r : Regex) (hay : List ℕ) (last : Option ℕ) (m : Excerpt) : Type 0 where
  pub haystack : m.haystack ≡ hay
  pub lies : LiesFrom (length hay) (unwrap_or last 0) m.span
  pub follow : spans_after r hay last ≡ m.span ∷ spans_after r hay (Some m.span.end)

-- the next match is found, or there is none
abbrev pub FindsNext : Regex → List ℕ → Option ℕ → Option Excerpt → Type 0
FindsNext r hay last None = spans_after r hay last ≡ []
FindsNext r hay last (Some m) = IsNext r hay last m

-- the slots hold the groups of the next match; those of the other matches follow
pub record AreNextGroups (r : Regex) (hay : List ℕ) (last : Option ℕ) (m : Excerpt) (slots : List (Option ℕ)) : Type 0 where
  pub next : IsNext r hay last m
  pub are : AreGroups r hay slots
  pub whole : group_in slots 0 ≡ Some m.span
  pub follow : captures_after r hay last ≡ captured r hay slots ∷ captures_after r hay (Some m.span.end)

-- the next match is found with its groups, or there is none
abbrev pub ReadsNext : Regex → List ℕ → Option ℕ → Option Excerpt → List (Option ℕ) → Type 0
ReadsNext r hay last None slots = (spans_after r hay last ≡ []) × (captures_after r hay last ≡ [])
ReadsNext r hay last (Some m) slots = AreNextGroups r hay last m slots

-- what a search has visited, by whether it is anchored
abbrev pub SearchedBy : Bool → Regex → List ℕ → ℕ → Bool → Room → Room → Type 0
SearchedBy true r hay s = Searched r hay s (start_alone hay s)
SearchedBy false r hay s = SearchedFrom r hay s

-- A search with a cache says whether there is a match: one that begins at s or later, or one that begins at s if the search is
-- anchored.
pub record TestsBy (anchored : Bool) (r : Regex) (hay : List ℕ) (s : ℕ) (there : Bool) (old new : Room) : Type 0 where
  pub found : IsTrue there ↔ HasMatch r.tree hay (starts_of hay anchored s)
  pub searched : SearchedBy anchored r hay s there old new
  pub searches : Makes 1 old new

-- it finds such a match
pub record FindsBy {A : Type 0} (view : A → Excerpt) (anchored : Bool) (r : Regex) (hay : List ℕ) (s : ℕ) (m : Option A) (old new : Room) : Type 0 where
  pub found : FindsMatch r hay (starts_of hay anchored s) (option_map view m)
  pub searched : SearchedBy anchored r hay s (is_some m) old new
  pub searches : MakesBy anchored r old new

-- it finds the groups of such a match, or memory is refused for them
pub record CapturesBy {E : Type 0} (anchored : Bool) (r : Regex) (hay : List ℕ) (s : ℕ) (c : Result (Option Captured) E) (old new : Room) : Type 0 where
  pub found : IfOk c (FindsCaptured r hay (starts_of hay anchored s))
  pub searched : IfOk c (λ x. SearchedBy anchored r hay s (is_some x) old new)
  pub searches : MakesUntilRefused c (searches_for r.leftmost_longest anchored) old new
  pub fits : new.fits ≡ old.fits

-- it finds such a match, and writes its groups over the slots
pub record ReadsBy {A : Type 0} (view : A → Excerpt) (anchored : Bool) (r : Regex) (hay : List ℕ) (s : ℕ) (m : Option A)
    (before after : List (Option ℕ)) (old new : Room) : Type 0 where
  pub read : ReadsGroups r hay (starts_of hay anchored s) (option_map view m) before after
  pub searched : SearchedBy anchored r hay s (is_some m) old new
  pub searches : MakesBy anchored r old new

-- the same, each for a search from s on and for one that is anchored at s
abbrev pub TestsWith : Regex → List ℕ → ℕ → Bool → Room → Room → Type 0
TestsWith = TestsBy false

abbrev pub TestsAnchoredWith : Regex → List ℕ → ℕ → Bool → Room → Room → Type 0
TestsAnchoredWith = TestsBy true

abbrev pub FindsWith : {A : Type 0} → (A → Excerpt) → Regex → List ℕ → ℕ → Option A → Room → Room → Type 0
FindsWith view = FindsBy view false

abbrev pub FindsAnchoredWith : {A : Type 0} → (A → Excerpt) → Regex → List ℕ → ℕ → Option A → Room → Room → Type 0
FindsAnchoredWith view = FindsBy view true

abbrev pub CapturesWith : {E : Type 0} → Regex → List ℕ → ℕ → Result (Option Captured) E → Room → Room → Type 0
CapturesWith = CapturesBy false

abbrev pub CapturesAnchoredWith : {E : Type 0} → Regex → List ℕ → ℕ → Result (Option Captured) E → Room → Room → Type 0
CapturesAnchoredWith = CapturesBy true

abbrev pub ReadsWith : {A : Type 0} → (A → Excerpt) → Regex → List ℕ → ℕ → Option A → List (Option ℕ) → List (Option ℕ) → Room → Room → Type 0
ReadsWith view = ReadsBy view false

abbrev pub ReadsAnchoredWith : {A : Type 0} → (A → Excerpt) → Regex → List ℕ → ℕ → Option A → List (Option ℕ) → List (Option ℕ) → Room → Room → Type 0
ReadsAnchoredWith view = ReadsBy view true

-- a search from s on finds the least end of a match
pub record EndsWith (r : Regex) (hay : List ℕ) (s : ℕ) (end : Option ℕ) (old new : Room) : Type 0 where
  pub least : IsLeastEnd r.tree hay (places hay s) end
  pub searched : SearchedFrom r hay s (is_some end) old new
  pub searches : Makes 1 old new

-- a search says whether a match is the whole haystack
pub record TestsFullWith (r : Regex) (hay : List ℕ) (there : Bool) (old new : Room) : Type 0 where
  pub found : IsTrue there ↔ IsFullMatch r.tree hay
  pub searched : SearchedWithin r hay 0 old new
  pub searches : Makes 2 old new

-- the same of a search that writes the groups of such a match over the slots
pub record ReadsFullWith (r : Regex) (hay : List ℕ) (there : Bool) (before after : List (Option ℕ)) (old new : Room) : Type 0 where
  pub found : full_slots r hay ≡ groups_if there after
  pub on_tree : FindsGroupsFull r hay (groups_if there after)
  pub searched : SearchedWithin r hay 0 old new
  pub searches : Makes 2 old new
  pub len : length after ≡ length before

-- a search finds the groups of a match that is the whole haystack, or memory is refused for them
pub record CapturesFullWith {E : Type 0} (r : Regex) (hay : List ℕ) (c : Result (Option Captured) E) (old new : Room) : Type 0 where
  pub found : IfOk c (FindsCapturedFull r hay)
  pub searched : OnOk c (SearchedWithin r hay 0 old new)
  pub searches : MakesUntilRefused c 2 old new
  pub fits : new.fits ≡ old.fits
