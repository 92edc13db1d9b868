use Rattle.std.proofs.Common.{ℕ, ◌<◌, List}
use Rattle.std.specs.Prelude.{slice_index_or}
use Rattle.bites_scan.specs.Literal.{Needle, NeedleOccursAt}
use Rattle.bites_scan.specs.Trigrams.{AreTrigramsOf}
use Rattle.bites_scan.proofs.literal_set.LiteralSet.may_occur.Given as goal

-- none of the literals so far may occur
abbrev pub invariant-loop-literal : goal.invariant-loop-literal
invariant-loop-literal l = (haystack : List ℕ) (at : ℕ) → AreTrigramsOf l.trigrams haystack →
    (k : ℕ) (n : Needle) → k < l.literal-index → NeedleOccursAt haystack at (slice_index_or l.self k n) → ⊥
