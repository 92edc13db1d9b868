-- A text whose matches are being replaced, step by step.
use Rattle.std.specs.Prelude.{◌≡◌, ℕ, ◌<◌, ◌≤◌, List, [], ◌∷◌, ◌++◌, map, length, slice_range, string_bytes, Option, Some, unwrap_or, Result, MatchOption, MatchResult}
use Rattle.bites_spec.specs.Match.{Span}
use Rattle.bites_spec.specs.Regex.{Regex}
use Rattle.bites_spec.specs.Captured.{Captured, Excerpt, excerpt}
use Rattle.bites_spec.specs.Iteration.{spans_after, captures_after}
use Rattle.bites_spec.specs.Replaced.{span_in}
use Rattle.bites_bytes.specs.ReplaceLimit.{taken}
use Rattle.regex_bites.specs.Borders.{IsPart}
use Rattle.regex_bites.specs.Matched.{excerpt_of}
use Rattle.regex_bites.specs.declared.string.matched.Match.{Match}
use Rattle.regex_bites.specs.declared.string.replace.ReplacedText.{ReplacedText}

-- the matches after the last one
abbrev pub matches_after : Regex → List ℕ → Option ℕ → List Excerpt
matches_after r hay last = map (excerpt hay) (spans_after r hay last)

-- the next match, of as many as may be replaced, and those after it
abbrev pub TakesMatch : Regex → ReplacedText → Option ℕ → Option Match → Option ℕ → Type 0
TakesMatch r s left m rest =
    MatchOption m (taken left (matches_after r s.haystack.now s.last) ≡ [])
    (λ x. taken left (matches_after r s.haystack.now s.last)
    ≡ excerpt_of x ∷ taken rest (matches_after r s.haystack.now (Some (excerpt_of x).span.end)))

-- like `TakesMatch`, but with its groups, or a refusal
abbrev pub TakesCaptures : {E : Type 0} → Regex → ReplacedText → Option ℕ → Option (Result Captured E) → Option ℕ → Type 0
TakesCaptures r s left m rest =
    MatchOption m (taken left (captures_after r s.haystack.now s.last) ≡ [])
    (λ x. MatchResult x (λ c. taken left (captures_after r s.haystack.now s.last)
    ≡ c ∷ taken rest (captures_after r s.haystack.now (Some (span_in c).end)))
    (λ e. 0 < length (taken left (captures_after r s.haystack.now s.last))))

-- the part is one of the text, behind the last match
pub record Follows (s : ReplacedText) (e : Excerpt) : Type 0 where
  pub part : IsPart s.haystack.now e
  pub order : unwrap_or s.last 0 ≤ e.span.start

-- what stands before the span is written, and the haystack goes on after the span
abbrev pub KeepsUpTo : Span → ReplacedText → ReplacedText → Type 0
KeepsUpTo x s t =
    (t.haystack.now ≡ s.haystack.now) × (t.last ≡ Some x.end)
    × (string_bytes t.out ≡ string_bytes s.out ++ slice_range s.haystack.now (unwrap_or s.last 0) x.start)

-- like `KeepsUpTo`, but with a text written after it
abbrev pub Writes : Span → List ℕ → ReplacedText → ReplacedText → Type 0
Writes x text s t =
    (t.haystack.now ≡ s.haystack.now) × (t.last ≡ Some x.end)
    × (string_bytes t.out ≡ (string_bytes s.out ++ slice_range s.haystack.now (unwrap_or s.last 0) x.start) ++ text)

-- the text is what a replacer gives, from one state to the other
abbrev pub WritesBy : {S : Type 0} → (S → Captured → List ℕ → S → Type 0) → Captured → ReplacedText → S → ReplacedText → S → Type 0
WritesBy gives c s r t q = (text : List ℕ) × gives r c text q × Writes (span_in c) text s t
