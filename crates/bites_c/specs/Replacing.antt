-- A haystack whose matches are being replaced, step by step.
use Rattle.std.specs.Prelude.{◌≡◌, ◌<◌, ℕ, Bool, true, false, List, [], ◌++◌, length, map, slice_range, Some, None, unwrap_or}
use Rattle.bites_spec.specs.Match.{Span}
use Rattle.bites_spec.specs.Pieces.{replaced_from}
use Rattle.bites_spec.specs.Regex.{Regex}
use Rattle.bites_spec.specs.Captured.{Captured}
use Rattle.bites_spec.specs.Iteration.{spans_after, captures_after}
use Rattle.bites_bytes.specs.ReplaceLimit.{taken, bound}
use Rattle.bites_bytes.specs.Replacing.{replaces_none}
use Rattle.bites_c.specs.declared.replacing.Replacing.{Replacing}

-- nothing is written yet
pub record IsFresh (hay : List ℕ) (n : ℕ) (s : Replacing) : Type 0 where
  pub haystack : s.haystack.now ≡ hay
  pub last : s.last ≡ None
  pub left : s.left ≡ bound n
  pub out : s.out.items ≡ []

-- the matches that are still to be replaced
abbrev pub spans_left : Regex → Replacing → List Span
spans_left r s = taken s.left (spans_after r s.haystack.now s.last)

abbrev pub captures_left : Regex → Replacing → List Captured
captures_left r s = taken s.left (captures_after r s.haystack.now s.last)

-- what stands before the span is written, and then the text; the search goes on where the span ends
pub record Writes (x : Span) (text : List ℕ) (s t : Replacing) : Type 0 where
  pub out : t.out.items ≡ (s.out.items ++ slice_range s.haystack.now (unwrap_or s.last 0) x.start) ++ text
  pub last : t.last ≡ Some x.end
  pub left : t.left ≡ s.left
  pub haystack : t.haystack.now ≡ s.haystack.now

-- the items that are left, where each stands in the haystack, and what it is replaced by
module _ {C : Type 0} (items : Replacing → List C) (span_of : C → Span) (text_of : C → List ℕ) where
  -- what is written, and then the rest of the haystack with the items that are left replaced
  abbrev pub whole : Replacing → List ℕ
  whole s = s.out.items ++ replaced_from s.haystack.now (unwrap_or s.last 0) (map span_of (items s)) (map text_of (items s))

  -- what is written in the end is unchanged, and so is whether something is replaced
  pub record GoesOn (s t : Replacing) : Type 0 where
    pub same : whole t ≡ whole s
    pub nothing : replaces_none t.last (items t) ≡ replaces_none s.last (items s)
    pub haystack : t.haystack.now ≡ s.haystack.now

  -- fewer items are left, or none is
  abbrev pub Steps : Replacing → Bool → Replacing → Type 0
  Steps s true t = GoesOn s t × (length (items t) < length (items s))
  Steps s false t = GoesOn s t × (items t ≡ [])

  -- no item is left
  abbrev pub Ends : Replacing → Replacing → Type 0
  Ends s t = GoesOn s t × (items t ≡ [])
