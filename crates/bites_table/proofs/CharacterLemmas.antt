-- What stands at a place is a character or the end.
use Rattle.bites_table.proofs.Library.{common_steps, cases_Bool, nat_tests, is_scalar, Range, in_range, next_character, ◌≡◌, ℕ, suc, ◌+◌, ◌-◌, ◌*◌, ◌<◌, ◌≤◌, true, List, [], ◌∷◌, length, take, drop, refl, arith, piece_by, character, fitting, whole_len, scalar_value, well_formed_rows, piece, front_piece}
use Rattle.bites_table.specs.Kinds.{is_character}

in_bounds : (r : Range) (b : ℕ) → in_range r b ≡ true → (r.0 ≤ b) × (b ≤ r.1)
in_bounds r b e = (grind (arith, nat_tests), grind (arith, nat_tests))

low_is : (c : ℕ) → c < 0xD800 → is_scalar c ≡ true
low_is c lt = grind (arith, nat_tests)

high_is : (c : ℕ) → 0xE000 ≤ c → c ≤ 0x10_FFFF → is_scalar c ≡ true
high_is c from to = grind (arith, common_steps, nat_tests)

-- the first byte of a row that fits whole lies in its range, and the rest fits
first_fits : (r : Range) (row : List Range) (b n : ℕ) (bytes : List ℕ) → fitting (r ∷ row) (b ∷ bytes) ≡ suc n → (in_range r b ≡ true) × (fitting row bytes ≡ n)
first_fits r row b n bytes e = grind (arith, common_steps)

none_fits : (r : Range) (row : List Range) (n : ℕ) → fitting (r ∷ row) [] ≡ suc n → ⊥
none_fits r row n e = omega arith

-- what fits the row whole is a character
abbrev IsScalarRow : List Range → Type 0
IsScalarRow row = (bytes : List ℕ) → fitting row bytes ≡ length row → is_scalar (scalar_value (take (length row) bytes)) ≡ true

one_row : (r : Range) → r.1 < 0xD800 → IsScalarRow (r ∷ [])
one_row r low h e = grind (arith, common_steps, none_fits, in_bounds, first_fits, low_is)

two_row : (r s : Range) → r.1 ≤ 0xDF → s.1 ≤ 0xBF → IsScalarRow (r ∷ s ∷ [])
two_row r s low next h e = grind (arith, common_steps, none_fits, first_fits, in_bounds, low_is)

-- a row of three whose values are characters
three_row : (r s t : Range) → ((b x y : ℕ) → r.0 ≤ b → b ≤ r.1 → s.0 ≤ x → x ≤ s.1 → t.0 ≤ y → y ≤ t.1 → is_scalar (((b - 0xE0) * 64 + (x - 0x80)) * 64 + (y - 0x80)) ≡ true) →
    IsScalarRow (r ∷ s ∷ t ∷ [])
three_row r s t is h e = grind (arith, common_steps, none_fits, first_fits, in_bounds)

-- and one of four
four_row : (r s t u : Range) → 0xF0 ≤ r.0 → r.1 ≤ 0xF4 → 0x80 ≤ s.0 → s.1 ≤ 0xBF → 0x80 ≤ t.0 → t.1 ≤ 0xBF → 0x80 ≤ u.0 → u.1 ≤ 0xBF →
    ((b x : ℕ) → r.0 ≤ b → b ≤ r.1 → s.0 ≤ x → x ≤ s.1 → (0x10 ≤ (b - 0xF0) * 64 + (x - 0x80)) × ((b - 0xF0) * 64 + (x - 0x80) < 0x110)) → IsScalarRow (r ∷ s ∷ t ∷ u ∷ [])
four_row r s t u rl rh sl sh tl th ul uh is h e = grind (arith, none_fits, first_fits, in_bounds, high_is)

abbrev AreScalarRows : List (List Range) → Type 0
AreScalarRows [] = Unit {0}
AreScalarRows (row ∷ rows) = IsScalarRow row × AreScalarRows rows

rows_are : AreScalarRows well_formed_rows
rows_are = (
  one_row (0x00, 0x7F) (omega arith),
  grind (arith, common_steps, two_row, three_row, low_is, high_is, four_row),
)

-- so is what the row that fits whole spells
whole_is : (rows : List (List Range)) → AreScalarRows rows → (bytes : List ℕ) (n : ℕ) → whole_len rows bytes ≡ suc n → is_scalar (scalar_value (take (suc n) bytes)) ≡ true
whole_is [] are bytes n e = absurd (omega arith)
whole_is (row ∷ rows) are bytes n e = grind (arith, common_steps, nat_tests, cases_Bool, (whole_is rows are.1 bytes n))

piece_is : (n : ℕ) (bytes : List ℕ) → ((m : ℕ) → n ≡ suc m → is_scalar (scalar_value (take (suc m) bytes)) ≡ true) → is_scalar (character (piece_by n bytes)) ≡ true
piece_is n bytes is = grind (arith, common_steps)

front_is : (bytes : List ℕ) → is_scalar (character (front_piece bytes)) ≡ true
unfolding front_piece
front_is [] = refl
front_is (b ∷ bytes) = piece_is (whole_len well_formed_rows (b ∷ bytes)) (b ∷ bytes) (whole_is well_formed_rows rows_are (b ∷ bytes))

at_place : (hay : List ℕ) (i : ℕ) → is_scalar (character (piece hay i)) ≡ true
unfolding piece
at_place hay i = front_is (drop i hay)

-- what stands at a place
pub is_next_character : (hay : List ℕ) (i : ℕ) → is_character (next_character hay i) ≡ true
is_next_character hay i = grind (arith, common_steps, at_place)
