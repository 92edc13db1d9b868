-- Offsets at which a literal occurs in a haystack. Bytes that fold to one number count as equal.
use Rattle.std.specs.Prelude.{◌≡◌, ℕ, ◌+◌, ◌≤◌, Bool, true, false, List, length, map, take, drop}
use Rattle.std.specs.Char.{to_ascii_lowercase}
use Rattle.bites_scan.specs.declared.literal.Outcome.{Outcome}
use Rattle.bites_scan.specs.Offsets.{IsOutcomeBy, IsOutcomeUpTo}

-- the bytes of a literal, and whether letters of ASCII count as equal in both cases
pub record Needle : Type 0 where
  pub bytes : List ℕ
  pub caseless : Bool

-- a literal by its bytes and whether it is caseless
abbrev pub needle : List ℕ → Bool → Needle
needle bytes caseless = record { bytes = bytes; caseless = caseless }

-- what a byte folds to
abbrev pub folding : Bool → ℕ → ℕ
folding true byte = to_ascii_lowercase byte
folding false byte = byte

-- the bytes occur here
pub record OccursAt (fold : ℕ → ℕ) (haystack bytes : List ℕ) (at : ℕ) : Type 0 where
  pub room : at + length bytes ≤ length haystack
  pub equal : map fold (take (length bytes) (drop at haystack)) ≡ map fold bytes

-- a literal occurs here, by its own folding
abbrev pub NeedleOccursAt : List ℕ → ℕ → Needle → Type 0
NeedleOccursAt haystack at n = OccursAt (folding n.caseless) haystack n.bytes at

-- no place has both literals
abbrev pub DifferFrom : (a b : Needle) → Type 0
DifferFrom a b = (haystack : List ℕ) (at : ℕ) → NeedleOccursAt haystack at a → NeedleOccursAt haystack at b → ⊥

-- the bytes end here if they begin there
abbrev pub EndsBehind : List ℕ → (start end : ℕ) → Type 0
EndsBehind bytes start end = end ≡ start + length bytes

-- what a search for these bytes returns
abbrev pub IsOutcomeOf : (ℕ → ℕ) → (haystack bytes : List ℕ) → ℕ → Outcome → Type 0
IsOutcomeOf fold haystack bytes from outcome = IsOutcomeBy (OccursAt fold haystack bytes) (EndsBehind bytes) (length haystack) from outcome

-- what a search for them at some offsets returns
abbrev pub IsOutcomeWithin : (ℕ → ℕ) → (haystack bytes : List ℕ) → (from stop : ℕ) → Outcome → Type 0
IsOutcomeWithin fold haystack bytes from stop outcome = IsOutcomeUpTo (OccursAt fold haystack bytes) (EndsBehind bytes) (length haystack) from stop outcome

-- what a search for this literal returns
abbrev pub IsOutcome : Needle → List ℕ → ℕ → Outcome → Type 0
IsOutcome n haystack from outcome = IsOutcomeOf (folding n.caseless) haystack n.bytes from outcome
