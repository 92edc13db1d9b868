-- The laws of successive matches and of the pieces between them, each proved.
use Rattle.std.specs.Prelude.{◌≡◌, ℕ, ◌+◌, List, ◌∷◌, length, map, Option, option_map}
use Rattle.bites_spec.specs.Match.{Span}
use Rattle.bites_spec.specs.Spans.{next_after, followed, successive_after, successive, Successive, AnswersLie, EndsGrow}
use Rattle.bites_spec.specs.Pieces.{AreInOrder, gaps, limited, text_at, replaced, joined_by, alternate}

-- the function returns a list of successive items, and no other list is one
abbrev pub SuccessiveIsOne : Type 0 → Type 0
SuccessiveIsOne B =
    (span_of : B → Span) (hay : List ℕ) (A : ℕ → Option B) → AnswersLie span_of hay A →
    Successive span_of hay (λ s o. A s ≡ o) (successive span_of hay A)
    × ((xs : List B) → Successive span_of hay (λ s o. A s ≡ o) xs → xs ≡ successive span_of hay A)

-- what comes after an item is the next item, if there is one, and then what comes after that
abbrev pub SuccessiveGoesOn : Type 0 → Type 0
SuccessiveGoesOn B =
    (span_of : B → Span) (hay : List ℕ) (A : ℕ → Option B) → AnswersLie span_of hay A → (e : ℕ) →
    successive_after span_of hay A e ≡ followed span_of (successive_after span_of hay A) (next_after span_of hay A e)

-- a map that keeps spans takes the successive items to the successive images
abbrev pub SuccessiveIsMapped : Type 0 → Type 0 → Type 0
SuccessiveIsMapped B C =
    (f : B → C) (span_of : B → Span) (span_of_image : C → Span) → ((x : B) → span_of_image (f x) ≡ span_of x) →
    (hay : List ℕ) (A : ℕ → Option B) →
    map f (successive span_of hay A) ≡ successive span_of_image hay (λ s. option_map f (A s))

-- the spans of successive items stand in order and without overlap, and each ends above the one before
abbrev pub SpansGrow : Type 0 → Type 0
SpansGrow B =
    (span_of : B → Span) (hay : List ℕ) (A : ℕ → Option B) → AnswersLie span_of hay A →
    AreInOrder (length hay) 0 (map span_of (successive span_of hay A))
    × ((x : B) (xs : List B) → successive span_of hay A ≡ x ∷ xs → EndsGrow (span_of x).end (map span_of xs))

-- there is one piece more than there are matches, and pieces and matches laid alternately are the haystack
abbrev pub PiecesAndMatches : Type 0
PiecesAndMatches =
    (hay : List ℕ) (ss : List Span) → AreInOrder (length hay) 0 ss →
    (length (gaps (length hay) ss) ≡ length ss + 1)
    × (alternate (map (text_at hay) (gaps (length hay) ss)) (map (text_at hay) ss) ≡ hay)

-- if there is a text for each match, pieces and texts laid alternately are the replaced haystack
abbrev pub ReplacedAlternates : Type 0
ReplacedAlternates =
    (hay : List ℕ) (n : ℕ) (ss : List Span) (texts : List (List ℕ)) → length texts ≡ length (limited n ss) →
    replaced hay n ss texts ≡ alternate (map (text_at hay) (gaps (length hay) (limited n ss))) texts

-- replacing each match by one text is joining the pieces by it
abbrev pub ReplacedIsJoined : Type 0
ReplacedIsJoined =
    (hay u : List ℕ) (ss : List Span) → replaced hay 0 ss (map (λ s. u) ss) ≡ joined_by u (map (text_at hay) (gaps (length hay) ss))
