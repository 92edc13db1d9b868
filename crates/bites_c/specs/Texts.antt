-- What a regex over texts requires of its arguments.
use Rattle.std.specs.Prelude.{◌≡◌, ◌≤◌, ℕ, Bool, true, false, List, length, Option, Some, None, IfSome, All, IsUtf8, IsCharBoundary}
use Rattle.bites_c.specs.Codes.{not_utf8, bad_span, not_border}
use Rattle.bites_c.specs.Replaced.{span_from_c, SpanLiesWithin}
use Rattle.bites_c.specs.declared.span.BitesSpan.{BitesSpan}

-- the offset is not within a character; no offset past the end of the haystack is
abbrev pub IsBorder : List ℕ → ℕ → Type 0
IsBorder hay i = i ≤ length hay → IsCharBoundary hay i

-- if Q is required, A holds if Q does and R holds if Q does not; if Q is not required, A holds
abbrev pub Asks : Bool → Type 0 → Type 0 → Type 0 → Type 0
Asks false Q R A = A
Asks true Q R A = ((Q → ⊥) → R) × (Q → A)

-- what a search from an offset on requires: the haystack is UTF-8, and then the offset is a border; else the number says what is
-- wrong, and S holds
abbrev pub AsksFrom : Bool → List ℕ → ℕ → ℕ → Type 0 → Type 0 → Type 0
AsksFrom is_text hay start number S A =
    Asks is_text (IsUtf8 hay) ((number ≡ not_utf8) × S) (Asks is_text (IsBorder hay start) ((number ≡ not_border) × S) A)

-- what a search after a match requires: its end is a border; and what the search for the first match requires: the haystack is
-- UTF-8
abbrev pub AsksAfter : Bool → List ℕ → Option ℕ → ℕ → Type 0 → Type 0 → Type 0
AsksAfter is_text hay None number S A = Asks is_text (IsUtf8 hay) ((number ≡ not_utf8) × S) A
AsksAfter is_text hay (Some end) number S A = Asks is_text (IsBorder hay end) ((number ≡ not_border) × S) A

-- both are UTF-8
abbrev pub AreUtf8 : List ℕ → List ℕ → Type 0
AreUtf8 hay other = IsUtf8 hay × IsUtf8 other

-- a span from C begins and ends at borders, if it is a span
abbrev pub LiesAtBorders : List ℕ → BitesSpan → Type 0
LiesAtBorders hay s = IfSome (span_from_c s) (λ g. IsBorder hay g.start × IsBorder hay g.end)

-- what groups for a template require: the template and the haystack are UTF-8, each group lies in the haystack, and each begins
-- and ends at borders; over bytes only the second is required. R holds of the number of the first requirement that is not met
abbrev pub AsksGroups : Bool → List ℕ → List BitesSpan → List ℕ → (ℕ → Type 0) → Type 0 → Type 0
AsksGroups is_text hay groups template R A =
    Asks is_text (AreUtf8 hay template) (R not_utf8)
    (Asks true (All (SpanLiesWithin (length hay)) groups) (R bad_span) (Asks is_text (All (LiesAtBorders hay) groups) (R not_border) A))
