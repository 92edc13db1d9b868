-- How many items may still come.
use Rattle.std.specs.Prelude.{◌≡◌, ℕ, zero, suc, Bool, true, false, List, take, Option, Some, None}

-- the first n items, or all
abbrev pub taken : {B : Type 0} → Option ℕ → List B → List B
taken None xs = xs
taken (Some n) xs = take n xs

-- a limit, which is none for 0
abbrev pub bound : ℕ → Option ℕ
bound zero = None
bound (suc n) = Some (suc n)

-- one is taken from what is left, if there is one
abbrev pub Spends : Option ℕ → Bool → Option ℕ → Type 0
Spends None there t = (there ≡ true) × (t ≡ None)
Spends (Some zero) there t = (there ≡ false) × (t ≡ Some zero)
Spends (Some (suc n)) there t = (there ≡ true) × (t ≡ Some n)
