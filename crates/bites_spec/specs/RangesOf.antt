-- The list of the canonical ranges of a set, as a function of the set.
use Rattle.std.specs.Prelude.{ℕ, zero, suc, ◌&&◌, ◌==◌, List, [], ◌∷◌, if◌then◌else◌}
use Rattle.bites_spec.specs.Range.{Range}
use Rattle.bites_spec.specs.Class.{Set, is_scalar, following, Lists}

-- a character put before ranges that stand above it
abbrev pub with_front : ℕ → List Range → List Range
with_front c [] = (c, c) ∷ []
with_front c (r ∷ ranges) = if following c == r.0 then (c, r.1) ∷ ranges else (c, c) ∷ r ∷ ranges

-- the canonical ranges of the set's characters among the n code points from c on
unfoldable pub ranges_from : Set → ℕ → ℕ → List Range
ranges_from set zero c = []
ranges_from set (suc n) c = if is_scalar c && set c then with_front c (ranges_from set n (suc c)) else ranges_from set n (suc c)

-- the canonical ranges of the set
unfoldable pub ranges_of : Set → List Range
ranges_of set = ranges_from set 0x11_0000 0

-- the canonical ranges of a set list it
abbrev pub RangesOfList : Type 0
RangesOfList = (set : Set) → Lists (ranges_of set) set
