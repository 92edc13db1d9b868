-- The hints of iterators.
use Rattle.std.specs.Prelude.{◌≡◌, ℕ, List, length, Option, Some, IfSome}
use Rattle.std.specs.Iterator.{UpTo, item_count}
use Rattle.std.specs.Iterator.SizeHint.{IsWithinCount}

-- the hint on how many items are left holds, and is the one that is given
pub record IsHint {S B : Type 0} (left : S → List B) (s : S) (hint given : ℕ × Option ℕ) : Type 0 where
  pub lower : IsWithinCount hint.0 (item_count left s)
  pub upper : IfSome hint.1 (UpTo (item_count left s))
  pub value : hint ≡ given

-- the hint is how many items are left
abbrev pub HintsExactly : {S B : Type 0} → (S → List B) → S → ℕ × Option ℕ → Type 0
HintsExactly left s hint = IsHint left s hint (length (left s), Some (length (left s)))
