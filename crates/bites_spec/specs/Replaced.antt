-- Haystacks with their matches replaced.
use Rattle.std.specs.Prelude.{ℕ, List, Option, unwrap_or}
use Rattle.bites_spec.specs.Match.{Span, span}
use Rattle.bites_spec.specs.Slots.{group_in}
use Rattle.bites_spec.specs.Regex.{Regex}
use Rattle.bites_spec.specs.Captured.{Captured}
use Rattle.bites_spec.specs.Iteration.{captures_in}
use Rattle.bites_spec.specs.Pieces.{limited}
use Rattle.bites_spec.specs.Replace.{Replaces, TextsRefused}

-- the span of group 0, which participates in every match
abbrev pub span_in : Captured → Span
span_in c = unwrap_or (group_in c.slots 0) (span 0 0)

-- a replacer by what it gives and by what its `no_expansion` returns
module _ {S : Type 0} (gives : S → Captured → List ℕ → S → Type 0) (answers : S → Option (List ℕ) → S → Type 0) where
  -- the bytes are the haystack with the first n matches, all for 0, replaced as the replacer says
  abbrev pub ReplacesIn : Regex → List ℕ → ℕ → S → List ℕ → S → Type 0
  ReplacesIn r hay n s result t = Replaces gives answers span_in hay n (captures_in r hay) s result t

  -- the replacer served a beginning of the first n matches, all for 0, when memory was refused
  abbrev pub IsRefusedIn : (S → Captured → List ℕ → S → Type 0) → Regex → List ℕ → ℕ → S → S → Type 0
  IsRefusedIn refuses r hay n s t = TextsRefused gives answers refuses s (limited n (captures_in r hay)) t
