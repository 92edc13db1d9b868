-- Texts that are made of haystacks, templates and groups.
use Rattle.std.specs.Prelude.{◌≡◌, ◌≢◌, ◌≤◌, ℕ, ◌&&◌, cond, nat_eq, false, List, [], map, Option, Some, None, IfSome, MatchOption, option_map, slice_index_or, chars, encode_utf8_all, IsUtf8}
use Rattle.bites_spec.specs.Match.{Span, span}
use Rattle.bites_spec.specs.Pieces.{limited, replaced, text_at}
use Rattle.bites_spec.specs.Regex.{Regex}
use Rattle.bites_spec.specs.Captured.{Captured}
use Rattle.bites_spec.specs.Iteration.{captures_in}
use Rattle.bites_spec.specs.Replaced.{span_in}
use Rattle.bites_spec.specs.Replacer.{expanded}
use Rattle.bites_spec.specs.Escaped.{escaped}
use Rattle.bites_spec.specs.Expansion.{index_in}
use Rattle.bites_spec.specs.Template.{expansion}
use Rattle.bites_c.specs.Codes.{not_utf8}
use Rattle.bites_c.specs.Put.{PutsMade, PutsNone, span_for_c}
use Rattle.bites_c.specs.declared.text.BitesSize.{BitesSize}
use Rattle.bites_c.specs.declared.span.BitesSpan.{BitesSpan}

-- the pattern in which each character of a text stands for itself
abbrev pub escaped_text : List ℕ → List ℕ
escaped_text text = encode_utf8_all (escaped (chars text))

-- the escaped text is put, or the text is not UTF-8
pub record PutsEscaped (text : List ℕ) (answer : BitesSize) (old new : List ℕ) : Type 0 where
  pub made : IsUtf8 text → PutsMade (escaped_text text) answer old new
  pub utf8 : (IsUtf8 text → ⊥) → PutsNone not_utf8 answer old new

-- the haystack with its first n matches, or all for 0, replaced by what a template stands for, or by a text
unfoldable pub with_template : Regex → List ℕ → ℕ → List ℕ → List ℕ
with_template r hay n template =
    replaced hay n (map span_in (captures_in r hay)) (map (λ c. expanded c template) (limited n (captures_in r hay)))

unfoldable pub with_text : Regex → List ℕ → ℕ → List ℕ → List ℕ
with_text r hay n text = replaced hay n (map span_in (captures_in r hay)) (map (λ c. text) (limited n (captures_in r hay)))

-- the text as its items if there are matches, else none
abbrev pub HoldsIfMatched : {V : Type 0} → (V → List ℕ) → List Captured → List ℕ → Option V → Type 0
HoldsIfMatched items cs text o = MatchOption o (cs ≡ []) (λ v. (cs ≢ []) × (items v ≡ text))

-- the span that C passes, or none for the greatest number twice
abbrev pub span_from_c : BitesSpan → Option Span
span_from_c s = cond (nat_eq s.start 0xFFFF_FFFF_FFFF_FFFF && nat_eq s.end 0xFFFF_FFFF_FFFF_FFFF) None (Some (span s.start s.end))

-- a span from C lies in a haystack of `len` bytes, if it is a span
abbrev pub SpanLiesWithin : ℕ → BitesSpan → Type 0
SpanLiesWithin len s = IfSome (span_from_c s) (λ g. (g.start ≤ g.end) × (g.end ≤ len))

-- the span of the group of this number, if it participated; groups after the last one did not
abbrev pub group_from_c : List BitesSpan → ℕ → Option Span
group_from_c groups k = span_from_c (slice_index_or groups k (span_for_c None))

-- what a template stands for by these groups in a haystack and the names of a regex
unfoldable pub expanded_by : List (Option (List ℕ)) → List BitesSpan → List ℕ → List ℕ → List ℕ
expanded_by names groups hay template =
    expansion false 0xFFFF_FFFF_FFFF_FFFF (λ k. option_map (text_at hay) (group_from_c groups k)) (index_in names) template
