-- Texts that stand in a haystack, and in its matches.
use Rattle.std.specs.Prelude.{◌≡◌, ℕ, ◌+◌, ◌<◌, ◌≤◌, ◌⊎◌, Bool, false, List, [], length, take, slice_index, Option, IfSome}
use Rattle.bites_scan.specs.Literal.{Needle, folding, needle}
use Rattle.bites_literals.specs.declared.text.Text.{Text}

-- the bytes of a text
abbrev pub bytes_of : Text → List ℕ
bytes_of t = take t.len t.bytes

-- the literal of a text
abbrev pub needle_of : Text → Needle
needle_of t = needle (bytes_of t) t.caseless

-- letters in both cases count as equal in both texts or in none, or the second says nothing of them
abbrev pub FoldsAs : (text next : Text) → Type 0
FoldsAs text next = (text.caseless ≡ next.caseless) ⊎ ((bytes_of next ≡ []) × (next.caseless ≡ false))

-- these bytes stand at i; if they are caseless, letters of ASCII count as equal in both cases
abbrev pub Stands : Bool → (bytes hay : List ℕ) → ℕ → Type 0
Stands caseless bytes hay i =
    (k : ℕ) → k < length bytes →
    (i + k < length hay) × (folding caseless (slice_index hay (i + k)) ≡ folding caseless (slice_index bytes k))

-- what lies from i to j ends with these bytes
pub record EndsWith (caseless : Bool) (bytes hay : List ℕ) (i j : ℕ) : Type 0 where
  pub at : ℕ
  pub onward : i ≤ at
  pub end : at + length bytes ≡ j
  pub stands : Stands caseless bytes hay at

-- what lies from i to j holds these bytes, behind at most so many others
pub record Holds (caseless : Bool) (bytes : List ℕ) (before : Option ℕ) (hay : List ℕ) (i j : ℕ) : Type 0 where
  pub at : ℕ
  pub onward : i ≤ at
  pub within : at + length bytes ≤ j
  pub near : IfSome before (λ n. at ≤ i + n)
  pub stands : Stands caseless bytes hay at
