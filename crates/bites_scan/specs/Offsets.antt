-- Offsets of a haystack at which something occurs, and what a search for it returns.
use Rattle.std.specs.Prelude.{◌≡◌, ℕ, ◌+◌, ◌<◌, ◌≤◌, Option, Some, None}
use Rattle.std.specs.Int.{bit_at}
use Rattle.bites_scan.specs.declared.literal.Outcome.{Outcome}
use Rattle.bites_scan.specs.declared.literal.Outcome.TheVariants.{Found, Nowhere, Tired}

-- it occurs at no offset from `from` up to `end`
abbrev pub NoneOccurs : (ℕ → Type 0) → (from end : ℕ) → Type 0
NoneOccurs Occurs from end = (at : ℕ) → from ≤ at → at < end → Occurs at → ⊥

-- it occurs at no offset from `from` on
abbrev pub NoneFrom : (ℕ → Type 0) → ℕ → Type 0
NoneFrom Occurs from = (at : ℕ) → from ≤ at → Occurs at → ⊥

-- `start` is the first offset from `from` on, and what occurs there ends at `end`
pub record IsFirst (Occurs : ℕ → Type 0) (Ends : ℕ → ℕ → Type 0) (from start end : ℕ) : Type 0 where
  pub onward : from ≤ start
  pub occurs : Occurs start
  pub ends : Ends start end
  pub none_before : NoneOccurs Occurs from start

-- a search of a haystack of so many bytes has gone on to `at` without a find
pub record HasPassed (Occurs : ℕ → Type 0) (len from at : ℕ) : Type 0 where
  pub onward : from < at
  pub within : at ≤ len
  pub none_before : NoneOccurs Occurs from at

-- what a search returns: the first offset, if there is one, or an offset that it has come to
abbrev pub IsOutcomeBy : (ℕ → Type 0) → (ℕ → ℕ → Type 0) → (len from : ℕ) → Outcome → Type 0
IsOutcomeBy Occurs Ends len from (Found start end) = IsFirst Occurs Ends from start end
IsOutcomeBy Occurs Ends len from Nowhere = NoneFrom Occurs from
IsOutcomeBy Occurs Ends len from (Tired at) = HasPassed Occurs len from at

-- what a search of the offsets from `from` up to `stop` returns
abbrev pub IsOutcomeUpTo : (ℕ → Type 0) → (ℕ → ℕ → Type 0) → (len from stop : ℕ) → Outcome → Type 0
IsOutcomeUpTo Occurs Ends len from stop (Found start end) = IsFirst Occurs Ends from start end
IsOutcomeUpTo Occurs Ends len from stop Nowhere = NoneOccurs Occurs from stop
IsOutcomeUpTo Occurs Ends len from stop (Tired at) = HasPassed Occurs len from at

-- the offset that a search has come to
abbrev pub offset_of : Outcome → Option ℕ
offset_of (Found start end) = Some start
offset_of Nowhere = None
offset_of (Tired at) = Some at

-- the search has not grown tired
abbrev pub IsSettled : Outcome → Type 0
IsSettled (Found start end) = Unit {0}
IsSettled Nowhere = Unit {0}
IsSettled (Tired at) = ⊥

-- a mask has a bit for each offset from `from` up to `end` at which it occurs, counted from `base`, and no bit for another offset
pub record Marks (Occurs : ℕ → Type 0) (base from end mask : ℕ) : Type 0 where
  pub behind : base ≤ from
  pub within : (k : ℕ) → bit_at mask k ≡ 1 → (from ≤ base + k) × (base + k < end)
  pub covers : (k : ℕ) → from ≤ base + k → base + k < end → Occurs (base + k) → bit_at mask k ≡ 1
