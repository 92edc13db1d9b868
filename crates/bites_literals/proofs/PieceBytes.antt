-- The bytes of a piece behind its first: each of them continues a character.
use Rattle.std.proofs.Common.{◌≡◌, ℕ, zero, suc, ◌+◌, ◌-◌, ◌<◌, ◌≤◌, Bool, true, false, cond, max, List, [], ◌∷◌, length, get_or, drop, refl, ap, ◌∙◌, subst, ◌⊎◌, ⊎_elim, arith, rules}
use Rattle.std.specs.Prelude.{◌==◌}
use Rattle.std.proofs.lemmas.Bool.Decides.{nat_tests}
use Rattle.std.proofs.lemmas.List.{get_or-drop}
use Rattle.bites_spec.specs.Range.{Range, in_range}
use Rattle.bites_spec.specs.Utf8.{piece, front_piece, piece_by, fitting, whole_len, begun_len, well_formed_rows}
use Rattle.bites_literals.specs.Begins.{Continues}

-- each of these ranges has such bytes alone
abbrev AllContinue : List Range → Type 0
AllContinue [] = Unit {0}
AllContinue (r ∷ row) = (128 ≤ r.0) × (r.1 < 192) × AllContinue row

-- each range of the row behind its first has
abbrev TailContinues : List Range → Type 0
TailContinues [] = Unit {0}
TailContinues (r ∷ row) = AllContinue row

in_continuation : (r : Range) (b : ℕ) → 128 ≤ r.0 → r.1 < 192 → in_range r b ≡ true → Continues b
in_continuation r b low high e = grind (arith, nat_tests)

fit_all : (row : List Range) → AllContinue row → (bytes : List ℕ) (k : ℕ) → k < fitting row bytes → Continues (get_or bytes k 0)
fit_all [] all bytes k lt = absurd (omega arith)
fit_all (r ∷ row) all [] k lt = absurd (omega arith)
fit_all (r ∷ row) all (b ∷ bytes) k lt = by (in_range r b) refl k lt (fit_all row all.2 bytes)
  where
    by : (c : Bool) → in_range r b ≡ c → (k : ℕ) → k < cond c (suc (fitting row bytes)) 0 → ((j : ℕ) → j < fitting row bytes → Continues (get_or bytes j 0)) → Continues (get_or (b ∷ bytes) k 0)
    by false is k lt more = absurd (omega arith)
    by true is zero lt more = in_continuation r b all.0 all.1 is
    by true is (suc k) lt more = more k (omega arith)

fit_tail : (row : List Range) → TailContinues row → (bytes : List ℕ) (k : ℕ) → suc k < fitting row bytes → Continues (get_or bytes (suc k) 0)
fit_tail [] tail bytes k lt = absurd (omega arith)
fit_tail (r ∷ row) tail [] k lt = absurd (omega arith)
fit_tail (r ∷ row) tail (b ∷ bytes) k lt = by (in_range r b) lt
  where
    by : (c : Bool) → suc k < cond c (suc (fitting row bytes)) 0 → Continues (get_or bytes k 0)
    by false lt = absurd (omega arith)
    by true lt = fit_all row tail bytes k (omega arith)

abbrev TailsContinue : List (List Range) → Type 0
TailsContinue [] = Unit {0}
TailsContinue (row ∷ rows) = TailContinues row × TailsContinue rows

whole_tail : (rows : List (List Range)) → TailsContinue rows → (bytes : List ℕ) (k : ℕ) → suc k < whole_len rows bytes → Continues (get_or bytes (suc k) 0)
whole_tail [] tails bytes k lt = absurd (omega arith)
whole_tail (row ∷ rows) tails bytes k lt = by (fitting row bytes == length row) lt (whole_tail rows tails.1 bytes k)
  where
    by : (c : Bool) → suc k < cond c (fitting row bytes) (whole_len rows bytes) → (suc k < whole_len rows bytes → Continues (get_or bytes (suc k) 0)) → Continues (get_or bytes (suc k) 0)
    by true lt more = fit_tail row tails.0 bytes k lt
    by false lt more = more lt

begun_tail : (rows : List (List Range)) → TailsContinue rows → (bytes : List ℕ) (k : ℕ) → suc k < begun_len rows bytes → Continues (get_or bytes (suc k) 0)
begun_tail [] tails bytes k lt = absurd (omega arith)
begun_tail (row ∷ rows) tails bytes k lt = ⊎_elim (fit_tail row tails.0 bytes k) (begun_tail rows tails.1 bytes k) (of_max (suc k) (fitting row bytes) (begun_len rows bytes) lt)
  where
    of_max : (k a b : ℕ) → k < max a b → (k < a) ⊎ (k < b)
    of_max k a b lt = grind arith

tails_continue : TailsContinue well_formed_rows
tails_continue = search rules

front_tail : (bytes : List ℕ) (k : ℕ) → suc k < (front_piece bytes).len → Continues (get_or bytes (suc k) 0)
unfolding front_piece
front_tail [] k lt = absurd (omega arith)
front_tail (b ∷ bytes) k lt = by (whole_len well_formed_rows (b ∷ bytes)) refl lt
  where
    by : (n : ℕ) → whole_len well_formed_rows (b ∷ bytes) ≡ n → suc k < (piece_by n (b ∷ bytes)).len → Continues (get_or (b ∷ bytes) (suc k) 0)
    by zero is lt = begun_tail well_formed_rows tails_continue (b ∷ bytes) k (omega arith)
    by (suc n) is lt = whole_tail well_formed_rows tails_continue (b ∷ bytes) k (omega arith)

pub continues_within : (hay : List ℕ) (i x : ℕ) → i < x → x < i + (piece hay i).len → Continues (get_or hay x 0)
unfolding piece
continues_within hay i x after lt =
    let there : i + suc (x - i - 1) ≡ x = omega arith in
    subst Continues (get_or-drop i hay (suc (x - i - 1)) 0 ∙ ap (λ k. get_or hay k 0) there) (front_tail (drop i hay) (x - i - 1) (omega arith))
