-- The checks of states that are to be a program.
use Rattle.bites_machine.proofs.Library.{arith, ◌≡◌, ℕ, Bool, true, false, ◌&&◌, List, [], ◌∷◌, reverse, Option, Some, None, refl, nat_lt, common_steps, list_all, reverse-append, list_all-append, targets_of, are_ranges, splits}

-- the ranges after one that ends there
abbrev pub ranges_after : Option ℕ → List (ℕ × ℕ) → Bool
ranges_after None rs = are_ranges rs
ranges_after (Some end) [] = true
ranges_after (Some end) (r ∷ rs) = nat_lt end r.0 && are_ranges (r ∷ rs)

list_all-reverse : (p : ℕ → Bool) (xs : List ℕ) → list_all p (reverse xs) ≡ list_all p xs
list_all-reverse p [] = refl
list_all-reverse p (x ∷ xs) = grind (arith, common_steps, reverse-append, list_all-append, (list_all-reverse p xs))

-- the targets of a split, whichever is preferred
pub list_all_splits : (p : ℕ → Bool) (qs : List ℕ) (is_reversed : Bool) → list_all p (targets_of (splits qs is_reversed)) ≡ list_all p qs
list_all_splits p qs true = list_all-reverse p qs
list_all_splits p qs false = refl
