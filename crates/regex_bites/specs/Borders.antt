-- Parts of a text.
use Rattle.std.specs.Prelude.{◌≡◌, ℕ, ◌≤◌, Bool, true, false, List, length, Option, Some, is_some, option_map, IfSome, IsCharBoundary}
use Rattle.std.specs.Option.{ForSome}
use Rattle.bites_spec.specs.Match.{Span}
use Rattle.bites_spec.specs.Slots.{group_in}
use Rattle.bites_spec.specs.TextLaws.{HasBorders}
use Rattle.bites_spec.specs.Captured.{Excerpt, Captured, AreGroups}
use Rattle.bites_spec.specs.Counts.{Room, fit_of}
use Rattle.bites_spec.specs.Found.{IsLeastEnd}
use Rattle.bites_spec.specs.Full.{full_slots, FindsGroupsFull}
use Rattle.bites_spec.specs.Regex.{Regex}
use Rattle.bites_spec.specs.Set.{fits_for, fits_of}
use Rattle.bites_spec.specs.Utf8.{places}
use Rattle.bites_machine.specs.Inputs.{starts_of}
use Rattle.bites_bytes.specs.Calls.{groups_if, BothFit, Makes, MakesBy, ReadsGroups, SearchedBy, SearchedFrom, SearchedWithin}

-- a search may begin at the place: past the end, or where a character begins or the text ends
abbrev pub MayStart : List ℕ → ℕ → Type 0
MayStart hay s = s ≤ length hay → IsCharBoundary hay s

-- a search with the cache may begin at the place
pub record MaySearch (r : Regex) (hay : List ℕ) (s : ℕ) (room : Room) : Type 0 where
  pub border : MayStart hay s
  pub fits : room.fits ≡ fit_of r.program

-- and so may one that writes the slots, with the cache or with one of its own
pub record MayRead (r : Regex) (hay : List ℕ) (s : ℕ) (room : Room) (slots : List (Option ℕ)) : Type 0 where
  pub border : MayStart hay s
  pub fit : BothFit r room slots

pub record MayReadAlone (r : Regex) (hay : List ℕ) (s : ℕ) (slots : List (Option ℕ)) : Type 0 where
  pub border : MayStart hay s
  pub locations : length slots ≡ r.program.slots

-- a search for the next match may go on where the one before ended, with the cache, and with slots that it writes
pub record MayGoOn (r : Regex) (hay : List ℕ) (last : Option ℕ) (room : Room) : Type 0 where
  pub border : ForSome last (IsCharBoundary hay)
  pub fits : room.fits ≡ fit_of r.program

pub record MayGoOnWith (r : Regex) (hay : List ℕ) (last : Option ℕ) (room : Room) (slots : List (Option ℕ)) : Type 0 where
  pub border : ForSome last (IsCharBoundary hay)
  pub fit : BothFit r room slots

-- a search of a set with the caches may begin at the place, and may write an entry for each regex
pub record MaySearchSet (rs : List Regex) (hay : List ℕ) (s : ℕ) (rooms : List Room) : Type 0 where
  pub border : MayStart hay s
  pub fits : fits_of rooms ≡ fits_for rs

pub record MayWriteSet (rs : List Regex) (hay : List ℕ) (s : ℕ) (rooms : List Room) (matched : List Bool) : Type 0 where
  pub border : MayStart hay s
  pub fits : fits_of rooms ≡ fits_for rs
  pub entries : length matched ≡ length rs

-- the part is one of this text, and begins and ends at character boundaries
abbrev pub IsPart : List ℕ → Excerpt → Type 0
IsPart hay e = (e.haystack ≡ hay) × HasBorders hay e.span

-- each group whose offsets are known begins and ends at character boundaries
abbrev pub GroupsAtBorders : List ℕ → List (Option ℕ) → Type 0
GroupsAtBorders hay slots = (k : ℕ) (g : Span) → group_in slots k ≡ Some g → HasBorders hay g

-- `GroupsAtBorders` as a record, for contracts
pub record HaveBorders (hay : List ℕ) (slots : List (Option ℕ)) : Type 0 where
  pub groups : GroupsAtBorders hay slots

-- the slots hold groups of the regex, which begin and end at character boundaries
pub record AreGroupsIn (r : Regex) (hay : List ℕ) (slots : List (Option ℕ)) : Type 0 where
  pub are : AreGroups r hay slots
  pub borders : HaveBorders hay slots

-- the groups are those of a match in this text
abbrev pub AreGroupsOf : List ℕ → Captured → Type 0
AreGroupsOf hay c = (c.haystack ≡ hay) × GroupsAtBorders hay c.slots

-- the least end of all matches from these starts, where a character begins or the text ends
pub record IsLeastBorder (r : Regex) (hay starts : List ℕ) (end : Option ℕ) : Type 0 where
  pub least : IsLeastEnd r.tree hay starts end
  pub border : IfSome end (IsCharBoundary hay)

-- a search with a cache from s on finds it
pub record EndsWith (r : Regex) (hay : List ℕ) (s : ℕ) (end : Option ℕ) (old new : Room) : Type 0 where
  pub least : IsLeastEnd r.tree hay (places hay s) end
  pub border : IfSome end (IsCharBoundary hay)
  pub searched : SearchedFrom r hay s (is_some end) old new
  pub searches : Makes 1 old new

-- a match from these starts is found, and its groups, which lie between such places, are written over the slots
pub record ReadsText {A : Type 0} (view : A → Excerpt) (r : Regex) (hay starts : List ℕ) (m : Option A) (before after : List (Option ℕ)) : Type 0 where
  pub read : ReadsGroups r hay starts (option_map view m) before after
  pub borders : IfSome m (λ x. HaveBorders hay after)

-- a search with a cache does so, from s on or, if it is anchored, at s
pub record ReadsBy {A : Type 0} (view : A → Excerpt) (anchored : Bool) (r : Regex) (hay : List ℕ) (s : ℕ) (m : Option A)
    (before after : List (Option ℕ)) (old new : Room) : Type 0 where
  pub read : ReadsGroups r hay (starts_of hay anchored s) (option_map view m) before after
  pub borders : IfSome m (λ x. HaveBorders hay after)
  pub searched : SearchedBy anchored r hay s (is_some m) old new
  pub searches : MakesBy anchored r old new

abbrev pub ReadsWith : {A : Type 0} → (A → Excerpt) → Regex → List ℕ → ℕ → Option A → List (Option ℕ) → List (Option ℕ) → Room → Room → Type 0
ReadsWith view = ReadsBy view false

abbrev pub ReadsAnchoredWith : {A : Type 0} → (A → Excerpt) → Regex → List ℕ → ℕ → Option A → List (Option ℕ) → List (Option ℕ) → Room → Room → Type 0
ReadsAnchoredWith view = ReadsBy view true

-- a search says whether a match is the whole text, and writes the groups of such a match over the slots
pub record ReadsFullWith (r : Regex) (hay : List ℕ) (there : Bool) (before after : List (Option ℕ)) (old new : Room) : Type 0 where
  pub found : full_slots r hay ≡ groups_if there after
  pub on_tree : FindsGroupsFull r hay (groups_if there after)
  pub borders : IfSome (groups_if there after) (HaveBorders hay)
  pub searched : SearchedWithin r hay 0 old new
  pub searches : Makes 2 old new
  pub len : length after ≡ length before
