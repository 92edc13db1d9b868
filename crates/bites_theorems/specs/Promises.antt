-- What users rely on.
use Rattle.std.specs.Prelude.{◌≡◌, ℕ, ◌≤◌, List, [], ◌∷◌, length, Option, Some, None, is_some, option_map, option_and_then, IsSome, IfSome, IfOk}
use Rattle.bites_spec.specs.Match.{Span}
use Rattle.bites_spec.specs.Slots.{group_in, participating}
use Rattle.bites_spec.specs.Spans.{EndsGrow}
use Rattle.bites_spec.specs.Pieces.{AreInOrder}
use Rattle.bites_spec.specs.Captured.{Captured, Excerpt, excerpt}
use Rattle.bites_theorems.specs.declared.calls.answers.Answers.{Answers}

-- both are there or neither is, and the first is at most the second
abbrev pub IsNoLater : Option ℕ → Option ℕ → Type 0
IsNoLater None None = Unit {0}
IsNoLater None (Some e) = ⊥
IsNoLater (Some l) None = ⊥
IsNoLater (Some l) (Some e) = l ≤ e

-- the second lies within the first
abbrev pub LiesWithin : Span → Span → Type 0
LiesWithin whole part = (whole.start ≤ part.start) × (part.start ≤ part.end) × (part.end ≤ whole.end)

-- group 0 participates, each group lies within it, and at least so many groups participate, if there is a number
pub record HaveWhole (least : Option ℕ) (slots : List (Option ℕ)) : Type 0 where
  pub whole : IsSome (group_in slots 0)
  pub within : (k : ℕ) (w g : Span) → group_in slots 0 ≡ Some w → group_in slots k ≡ Some g → LiesWithin w g
  pub number : IfSome least (λ n. n ≤ length (participating slots))

-- group 0 as a part of the haystack
abbrev pub whole_of : Captured → Option Excerpt
whole_of c = option_map (excerpt c.haystack) (group_in c.slots 0)

-- Answers about one place agree on whether there is a match, the match is group 0, and the groups have it as their whole. Each is
-- said of those calls for which memory sufficed.
pub record Agree {M : Type 0} (view : M → Excerpt) (a : Answers M Captured) : Type 0 where
  pub there : IfOk a.is_match (λ there. IfOk a.find (λ m. there ≡ is_some m))
  pub whole : IfOk a.find (λ m. IfOk a.captures (λ c. option_map view m ≡ option_and_then whole_of c))
  pub groups : IfOk a.captures (λ c. IfSome c (λ x. HaveWhole a.static_captures_len x.slots))

-- each span after the first ends after the one before
abbrev pub GrowAfterFirst : List Span → Type 0
GrowAfterFirst [] = Unit {0}
GrowAfterFirst (s ∷ ss) = EndsGrow s.end ss

-- the spans stand in order within `len` bytes, none overlaps another, and each ends after the one before
abbrev pub StandApart : ℕ → List Span → Type 0
StandApart len ss = AreInOrder len 0 ss × GrowAfterFirst ss
