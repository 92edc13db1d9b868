-- What a search with two handles returns.
use Rattle.std.specs.Prelude.{◌≡◌, ◌≢◌, ◌↔◌, ◌<◌, ◌≤◌, ℕ, List, [], length, Option, Some, None, option_map}
use Rattle.bites_spec.specs.Counts.{Room, fit_of}
use Rattle.bites_spec.specs.Regex.{Regex, slots_at}
use Rattle.bites_spec.specs.Captured.{FindsGroups, excerpt}
use Rattle.bites_spec.specs.Match.{Span}
use Rattle.bites_bytes.specs.Calls as calls
use Rattle.bites_c.specs.Put.{Puts, PutsGroups, PutsPiece, PutsSpan}
use Rattle.bites_c.specs.Codes.{matched, not_matched, not_utf8, empty_handle, unfit_cache, too_small}
use Rattle.bites_c.specs.Texts.{AreUtf8, Asks, AsksFrom, AsksAfter}
use Rattle.bites_c.specs.declared.cache.BitesCache.{BitesCache}
use Rattle.bites_c.specs.declared.regex.Bites.{Bites}
use Rattle.bites_c.specs.declared.held.Held.{Held}
use Rattle.bites_c.specs.declared.span.BitesSpan.{BitesSpan}

-- if there is a regex and room that fits it, a search is made, and P says of what the handle holds what was returned; else the
-- number says what is missing, and S holds
abbrev pub AnswersHeld : Option Held → Option Room → ℕ → Type 0 → (Held → Type 0) → Type 0
AnswersHeld None room number S P = (number ≡ empty_handle) × S
AnswersHeld (Some held) None number S P = (number ≡ empty_handle) × S
AnswersHeld (Some held) (Some room) number S P =
    (room.fits ≡ fit_of held.regex.program → P held) × (room.fits ≢ fit_of held.regex.program → (number ≡ unfit_cache) × S)

-- that was returned for what two handles held; the one holds the same regex, and the other room for the same regexes
pub record Searched (regex regex_after : Bites) (cache cache_after : BitesCache) (number : ℕ) (S : Type 0) (P : Held → Type 0) : Type 0 where
  pub same : regex_after.held ≡ regex.held
  pub fits : option_map (λ c. c.fits) cache_after.room ≡ option_map (λ c. c.fits) cache.room
  pub answered : AnswersHeld regex.held cache.room number S P

-- the same for a search from an offset on: over texts the number also says what is wrong with the haystack or the offset, and P
-- speaks of the regex
abbrev pub SearchedFrom : List ℕ → ℕ → Bites → Bites → BitesCache → BitesCache → ℕ → Type 0 → (Regex → Type 0) → Type 0
SearchedFrom hay start regex regex_after cache cache_after number S P =
    Searched regex regex_after cache cache_after number S (λ h. AsksFrom h.is_text hay start number S (P h.regex))

-- and for a search after a match, or for the first match
abbrev pub SearchedAfter : List ℕ → Option ℕ → Bites → Bites → BitesCache → BitesCache → ℕ → Type 0 → (Regex → Type 0) → Type 0
SearchedAfter hay last regex regex_after cache cache_after number S P =
    Searched regex regex_after cache cache_after number S (λ h. AsksAfter h.is_text hay last number S (P h.regex))

-- and for all matches in a haystack, with a replacement text or template
abbrev pub SearchedOver : List ℕ → List ℕ → Bites → Bites → BitesCache → BitesCache → ℕ → Type 0 → (Regex → Type 0) → Type 0
SearchedOver hay other regex regex_after cache cache_after number S P =
    Searched regex regex_after cache cache_after number S (λ h. Asks h.is_text (AreUtf8 hay other) ((number ≡ not_utf8) × S) (P h.regex))

-- the number is that of a match exactly if Q holds, and that of no match exactly if Q does not hold
abbrev pub AnswersIf : ℕ → Type 0 → Type 0
AnswersIf number Q = (number ≡ matched ↔ Q) × (number ≡ not_matched ↔ (Q → ⊥))

-- the number for handles with which no search can be made
abbrev pub Lacks : Option Held → Option Room → ℕ → Type 0
Lacks None room number = number ≡ empty_handle
Lacks (Some held) None number = number ≡ empty_handle
Lacks (Some held) (Some room) number = (room.fits ≢ fit_of held.regex.program) × (number ≡ unfit_cache)

-- P holds of the offset that was found, which is put
abbrev pub AnswersPlace : ℕ → ℕ → ℕ → (Option ℕ → Type 0) → Type 0
AnswersPlace number old new P = (found : Option ℕ) × P found × Puts found number old new

-- the same for a span
abbrev pub AnswersSpan : ℕ → BitesSpan → BitesSpan → (Option Span → Type 0) → Type 0
AnswersSpan number old new P = (found : Option Span) × P found × PutsSpan found number old new

-- the same for the piece before a span, in a haystack of `len` bytes
abbrev pub AnswersPiece : ℕ → ℕ → ℕ → ℕ → BitesSpan → (Option Span → Type 0) → Type 0
AnswersPiece len number last next piece P = (found : Option Span) × P found × PutsPiece found len number last next piece

-- a slice with too few places is unchanged, and nothing is searched for; else the groups that are found are put into its first
-- places
abbrev pub PutsCaptures : Regex → List ℕ → List ℕ → ℕ → List BitesSpan → List BitesSpan → Type 0
PutsCaptures r hay starts number old new =
    (length old < length r.names → (number ≡ too_small) × (new ≡ old))
    × (length r.names ≤ length old → FindsGroups r hay starts (slots_at r hay starts) × PutsGroups (slots_at r hay starts) (length r.names) number old new)

-- what is found is the span of the next match after one that ends at `last`, or of the first match
abbrev pub FindsNext : Regex → List ℕ → Option ℕ → Option Span → Type 0
FindsNext r hay last s = calls.FindsNext r hay last (option_map (excerpt hay) s)

-- the groups that are found are those of that match
abbrev pub FindsNextGroups : Regex → List ℕ → Option ℕ → Option (List (Option ℕ)) → Type 0
FindsNextGroups r hay last None = calls.ReadsNext r hay last None []
FindsNextGroups r hay last (Some slots) = (s : Span) × calls.ReadsNext r hay last (Some (excerpt hay s)) slots

-- the groups that are found are put into the first places
abbrev pub PutsFound : (Option (List (Option ℕ)) → Type 0) → ℕ → ℕ → List BitesSpan → List BitesSpan → Type 0
PutsFound Finds n number old new = (found : Option (List (Option ℕ))) × Finds found × PutsGroups found n number old new

-- a slice with too few places is unchanged, and nothing is searched for; else the groups of the next match are put into its first
-- places
abbrev pub PutsNextCaptures : Regex → List ℕ → Option ℕ → ℕ → List BitesSpan → List BitesSpan → Type 0
PutsNextCaptures r hay last number old new =
    (length old < length r.names → (number ≡ too_small) × (new ≡ old))
    × (length r.names ≤ length old → PutsFound (FindsNextGroups r hay last) (length r.names) number old new)
