-- Sets for C: what a handle holds, the patterns that it is made of, and what a search puts.
use Rattle.std.specs.Prelude.{◌≡◌, ◌<◌, ◌≤◌, ℕ, Bool, cond, List, [], ◌∷◌, ◌++◌, length, map, drop, slice_get, slice_range, Option, Some, IsUtf8, ⊤, true}
use Rattle.bites_spec.specs.Regex.{Regex}
use Rattle.bites_spec.specs.Set.{SetSettings, set_settings, AreMatched, HasMatchOfAny}
use Rattle.bites_bytes.specs.Set.{ArePrepared}
use Rattle.bites_c.specs.Codes.{bad_span, empty_handle, not_utf8, too_small}
use Rattle.bites_c.specs.Handles.{ReadsHandle}
use Rattle.bites_c.specs.Searched.{AnswersIf}
use Rattle.bites_c.specs.Texts.{AsksFrom}
use Rattle.bites_c.specs.Words.{asked}

-- what the handle of a set holds: a regex for each pattern, and whether its searches are over texts
pub record SetHeld : Type 0 where
  pub regexes : List Regex
  pub is_text : Bool

-- the same by its parts
abbrev pub set_held : List Regex → Bool → SetHeld
set_held regexes is_text = record { regexes = regexes; is_text = is_text }

-- the second holds the regexes of the first, each with a table or without one, and none with one if the limit is 0; their searches
-- look for literals first
pub record IsPreparedSet (limit : ℕ) (before after : SetHeld) : Type 0 where
  pub regexes : ArePrepared limit true before.regexes after.regexes
  pub is_text : after.is_text ≡ before.is_text

-- the patterns that stand one after another in some bytes: each ends at its offset, and the first begins at `start`
abbrev pub cut_from : List ℕ → ℕ → List ℕ → List (List ℕ)
cut_from bytes start [] = []
cut_from bytes start (e ∷ es) = slice_range bytes start e ∷ cut_from bytes e es

-- the offsets where patterns end don't fall, and lie within so many bytes
abbrev pub AreEnds : ℕ → ℕ → List ℕ → Type 0
AreEnds len start [] = ⊤
AreEnds len start (e ∷ es) = (start ≤ e) × (e ≤ len) × AreEnds len e es

-- the pattern with this number is not UTF-8
abbrev pub IsNoText : List (List ℕ) → ℕ → Type 0
IsNoText patterns k = (p : List ℕ) × (slice_get patterns k ≡ Some p) × (IsUtf8 p → ⊥)

-- the number refuses to cut patterns: the one with that number is not UTF-8, or the offsets are no ends
pub record RefusesCut (patterns ends : List ℕ) (number k : ℕ) : Type 0 where
  pub utf8 : number ≡ not_utf8 → IsNoText (cut_from patterns 0 ends) k
  pub bad : number ≡ bad_span → AreEnds (length patterns) 0 ends → ⊥

-- the settings that patterns, a word and two limits ask for
abbrev pub set_asked : List (List ℕ) → ℕ → ℕ → ℕ → SetSettings
set_asked patterns word size_limit nest_limit = set_settings patterns (asked [] word size_limit nest_limit)

-- what a search returned for the set that a handle holds: P says of its regexes what that is, unless the set is over texts and the
-- haystack or the offset is wrong; else the number says what is wrong or missing, and S holds
abbrev pub SearchedSet : List ℕ → ℕ → Option SetHeld → Option SetHeld → ℕ → Type 0 → (List Regex → Type 0) → Type 0
SearchedSet hay start old new number S P =
    ReadsHandle old new ((number ≡ empty_handle) × S) (λ held. AsksFrom held.is_text hay start number S (P held.regexes))

-- an entry as a byte
abbrev pub byte_of : Bool → ℕ
byte_of b = cond b 1 0

-- for each regex a byte is put, which is 1 if its tree matches and 0 if not; the number says whether any matches
pub record PutsMatched (regexes : List Regex) (hay starts : List ℕ) (number : ℕ) (old new : List ℕ) : Type 0 where
  pub matched : List Bool
  pub are : AreMatched regexes hay starts matched
  pub any : AnswersIf number (HasMatchOfAny regexes hay starts)
  pub put : new ≡ map byte_of matched ++ drop (length matched) old

-- the same, unless there are too few bytes for that, which are then unchanged
abbrev pub PutsMatchedIn : List Regex → List ℕ → List ℕ → ℕ → List ℕ → List ℕ → Type 0
PutsMatchedIn regexes hay starts number old new =
    (length old < length regexes → (number ≡ too_small) × (new ≡ old))
    × (length regexes ≤ length old → PutsMatched regexes hay starts number old new)
