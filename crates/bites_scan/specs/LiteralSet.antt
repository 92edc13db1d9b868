-- Offsets at which one of several literals occurs in a haystack.
use Rattle.std.specs.Prelude.{◌≡◌, ℕ, ◌+◌, ◌<◌, List, length, slice_index_or, Any}
use Rattle.std.specs.Int.{bit_at}
use Rattle.bites_scan.specs.declared.literal.Outcome.{Outcome}
use Rattle.bites_scan.specs.Literal.{Needle, NeedleOccursAt}
use Rattle.bites_scan.specs.Offsets.{IsOutcomeBy, IsOutcomeUpTo}

-- one of the literals occurs here
abbrev pub SomeOccursAt : List Needle → List ℕ → ℕ → Type 0
SomeOccursAt literals haystack at = Any (NeedleOccursAt haystack at) literals

-- one of them that has so many bytes occurs here
abbrev pub SomeOfLenOccursAt : List Needle → List ℕ → ℕ → ℕ → Type 0
SomeOfLenOccursAt literals haystack at len = Any (λ n. NeedleOccursAt haystack at n × (length n.bytes ≡ len)) literals

-- one of them stands there, up to an offset
abbrev pub StandsUpTo : List Needle → List ℕ → (start end : ℕ) → Type 0
StandsUpTo literals haystack start end = (len : ℕ) × SomeOfLenOccursAt literals haystack start len × (end ≡ start + len)

-- what a search for these literals returns
abbrev pub IsSetOutcome : List Needle → List ℕ → ℕ → Outcome → Type 0
IsSetOutcome literals haystack from outcome = IsOutcomeBy (SomeOccursAt literals haystack) (StandsUpTo literals haystack) (length haystack) from outcome

-- what a search for them at some offsets returns
abbrev pub IsSetOutcomeWithin : List Needle → List ℕ → (from stop : ℕ) → Outcome → Type 0
IsSetOutcomeWithin literals haystack from stop outcome =
    IsOutcomeUpTo (SomeOccursAt literals haystack) (StandsUpTo literals haystack) (length haystack) from stop outcome

-- the candidates, as bits, have each literal that occurs here
abbrev pub AreCandidates : List Needle → List ℕ → ℕ → ℕ → Type 0
AreCandidates literals haystack at candidates = (k : ℕ) (n : Needle) → k < length literals → NeedleOccursAt haystack at (slice_index_or literals k n) → bit_at candidates k ≡ 1
