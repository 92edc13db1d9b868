-- The successive matches in a haystack.
use Rattle.std.specs.Prelude.{◌≡◌, ℕ, zero, suc, ◌+◌, ◌<◌, ◌≤◌, ◌==◌, ◌&&◌, Bool, false, cond, List, [], ◌∷◌, length, Option, Some, None, ◌⊎◌}
use Rattle.bites_spec.specs.Utf8.{step_len}
use Rattle.bites_spec.specs.Match.{Span}

-- A is what a search from each place may return: an item that has a span, or none
module _ {B : Type 0} (span_of : B → Span) (hay : List ℕ) (A : ℕ → Option B → Type 0) where
  -- the answer is an item that is empty at e
  abbrev pub IsEmptyAt : ℕ → Option B → Type 0
  IsEmptyAt e None = ⊥
  IsEmptyAt e (Some x) = ((span_of x).start ≡ e) × ((span_of x).end ≡ e)

  -- the next item after one that ends at e: the answer from e, or if that is empty at e, the answer from one piece later
  abbrev pub IsNextAfter : ℕ → Option B → Type 0
  IsNextAfter e o =
      (A e o × (IsEmptyAt e o → ⊥))
      ⊎ ((x : B) × A e (Some x) × IsEmptyAt e (Some x) × A (e + step_len hay e) o)

  -- the list begins with the next item, if there is one, and goes on with what comes after it
  abbrev pub Follow : (Option B → Type 0) → List B → Type 0
  Follow First [] = First None
  Follow First (x ∷ xs) = First (Some x) × Follow (IsNextAfter (span_of x).end) xs

  -- these are the successive items
  abbrev pub Successive : List B → Type 0
  Successive xs = Follow (A 0) xs

-- `Successive` as a function: A is the answer of a search from each place.
module _ {B : Type 0} (span_of : B → Span) where
  -- the answer is an item that is empty at e
  abbrev pub is_empty_at : ℕ → Option B → Bool
  is_empty_at e None = false
  is_empty_at e (Some x) = ((span_of x).start == e) && ((span_of x).end == e)

  -- an item, if there is one, and then what comes after its end
  abbrev pub followed : (ℕ → List B) → Option B → List B
  followed behind None = []
  followed behind (Some x) = x ∷ behind (span_of x).end

module _ {B : Type 0} (span_of : B → Span) (hay : List ℕ) (A : ℕ → Option B) where
  -- the next item after one that ends at e
  unfoldable pub next_after : ℕ → Option B
  next_after e = cond (is_empty_at span_of e (A e)) (A (e + step_len hay e)) (A e)

  -- at most n of the items after one that ends at e
  unfoldable pub some_after : ℕ → ℕ → List B
  some_after zero e = []
  some_after (suc n) e = followed span_of (some_after n) (next_after e)

  -- the items after one that ends at e; their ends grow, so there are no more of them than the haystack has bytes
  unfoldable pub successive_after : ℕ → List B
  successive_after e = some_after (length hay) e

  -- the successive items
  unfoldable pub successive : List B
  successive = followed span_of successive_after (A 0)

-- a span lies at or after s, within a haystack of `len` bytes
abbrev pub LiesFrom : ℕ → ℕ → Span → Type 0
LiesFrom len s x = (s ≤ x.start) × (x.start ≤ x.end) × (x.end ≤ len)

-- a search from each place returns an item that lies at or after that place, within the haystack
abbrev pub AnswersLie : {B : Type 0} → (B → Span) → List ℕ → (ℕ → Option B) → Type 0
AnswersLie {B} span_of hay A = (s : ℕ) (x : B) → A s ≡ Some x → LiesFrom (length hay) s (span_of x)

-- each end is above the one before, and the first is above e
abbrev pub EndsGrow : ℕ → List Span → Type 0
EndsGrow e [] = Unit {0}
EndsGrow e (s ∷ ss) = (e < s.end) × EndsGrow s.end ss
