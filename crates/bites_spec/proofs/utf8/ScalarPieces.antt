-- The UTF-8 bytes of a scalar value are one piece, which has that character.
use Rattle.std.proofs.lemmas.Grind.{common_steps}
use Rattle.std.proofs.Common.{◌≡◌, ℕ, suc, ◌+◌, ◌/◌, ◌<◌, ◌≤◌, Bool, true, false, ◌==◌, cond, List, [], ◌∷◌, ◌++◌, length, take, drop, Some, refl, ap, ap₂, ◌∙◌, ⊎_elim, ◌⊎◌, inl, inr, arith, ltb, ltb-true, ltb-false, leb}
use Rattle.std.specs.Char.{len_utf8, IsScalar, encode_utf8}
use Rattle.std.proofs.lemmas.Bool.Decides.{nat_tests}
use Rattle.std.proofs.Math.Utf8.{scalar, next, scalar_cases}
use Rattle.bites_spec.specs.Range.{Range, in_range}
use Rattle.bites_spec.specs.Utf8.{Piece, front_piece, piece_by, fitting, whole_len, well_formed_rows, scalar_value}

-- a number in a range passes its test; one below or above it fails
inside : (a b x : ℕ) → a ≤ x → x ≤ b → in_range (a, b) x ≡ true
inside a b x l h = grind (arith, nat_tests)

above : (a b x : ℕ) → b < x → in_range (a, b) x ≡ false
above a b x l = grind (arith, nat_tests)

-- a byte that fits is counted
fits : (r : Range) (row : List Range) (b n : ℕ) (bytes : List ℕ) → in_range r b ≡ true → fitting row bytes ≡ n → fitting (r ∷ row) (b ∷ bytes) ≡ suc n
fits r row b n bytes is e = ap₂ (λ (d : Bool) (k : ℕ). cond d (suc k) 0) is e

same_eq : (n : ℕ) → (n == n) ≡ true
same_eq n = grind (arith, nat_tests)

-- a row that fits whole gives the length
take_row : (row : List Range) (rows : List (List Range)) (bytes : List ℕ) → fitting row bytes ≡ length row → whole_len (row ∷ rows) bytes ≡ length row
take_row row rows bytes e = ap (λ (n : ℕ). cond (n == length row) n (whole_len rows bytes)) e ∙ ap (λ (d : Bool). cond d (length row) (whole_len rows bytes)) (same_eq (length row))

-- a row that the first byte does not fit is skipped
skip_row : (r : Range) (row : List Range) (rows : List (List Range)) (b n : ℕ) (bytes : List ℕ) → in_range r b ≡ false → whole_len rows (b ∷ bytes) ≡ n →
    whole_len ((r ∷ row) ∷ rows) (b ∷ bytes) ≡ n
skip_row r row rows b n bytes is later = grind (arith, common_steps)

-- the well-formed rows without the first n
abbrev rows_from : ℕ → List (List Range)
rows_from n = drop n well_formed_rows

whole_two : (b x : ℕ) (rest : List ℕ) → 0xC2 ≤ b → b ≤ 0xDF → 0x80 ≤ x → x ≤ 0xBF → whole_len well_formed_rows (b ∷ x ∷ rest) ≡ 2
whole_two b x rest l h m k =
    skip_row (0x00, 0x7F) [] (rows_from 1) b 2 (x ∷ rest) (above 0x00 0x7F b (omega arith))
    (take_row ((0xC2, 0xDF) ∷ (0x80, 0xBF) ∷ []) (rows_from 2) (b ∷ x ∷ rest)
    (fits (0xC2, 0xDF) ((0x80, 0xBF) ∷ []) b 1 (x ∷ rest) (inside 0xC2 0xDF b l h) (fits (0x80, 0xBF) [] x 0 rest (inside 0x80 0xBF x m k) refl)))

-- three bytes fit a row of three ranges
fits_three : (r s : Range) (b x y : ℕ) (rest : List ℕ) → in_range r b ≡ true → in_range s x ≡ true → 0x80 ≤ y → y ≤ 0xBF →
    fitting (r ∷ s ∷ (0x80, 0xBF) ∷ []) (b ∷ x ∷ y ∷ rest) ≡ 3
fits_three r s b x y rest one two m k =
    fits r (s ∷ (0x80, 0xBF) ∷ []) b 2 (x ∷ y ∷ rest) one (fits s ((0x80, 0xBF) ∷ []) x 1 (y ∷ rest) two (fits (0x80, 0xBF) [] y 0 rest (inside 0x80 0xBF y m k) refl))

-- a first byte from E0 on fits neither of the first two rows
skip_two : (b n : ℕ) (bytes : List ℕ) → 0xE0 ≤ b → whole_len (rows_from 2) (b ∷ bytes) ≡ n → whole_len well_formed_rows (b ∷ bytes) ≡ n
skip_two b n bytes l later = grind (arith, common_steps, skip_row)

whole_three : (b x y : ℕ) (rest : List ℕ) → 0xE0 ≤ b → b ≤ 0xEF → 0x80 ≤ x → x ≤ 0xBF → (b ≡ 0xE0 → 0xA0 ≤ x) → (b ≡ 0xED → x ≤ 0x9F) → 0x80 ≤ y → y ≤ 0xBF →
    whole_len well_formed_rows (b ∷ x ∷ y ∷ rest) ≡ 3
whole_three b x y rest l h m k long no_surrogate s t = skip_two b 3 (x ∷ y ∷ rest) l (from_2 (leb b 0xE0) refl)
  where
    from_5 : 0xEE ≤ b → whole_len (rows_from 5) (b ∷ x ∷ y ∷ rest) ≡ 3
    from_5 le = take_row ((0xEE, 0xEF) ∷ (0x80, 0xBF) ∷ (0x80, 0xBF) ∷ []) (rows_from 6) (b ∷ x ∷ y ∷ rest)
        (fits_three (0xEE, 0xEF) (0x80, 0xBF) b x y rest (inside 0xEE 0xEF b le h) (inside 0x80 0xBF x m k) s t)

    from_4 : 0xED ≤ b → (d : Bool) → leb b 0xED ≡ d → whole_len (rows_from 4) (b ∷ x ∷ y ∷ rest) ≡ 3
    from_4 le true e =
        let is : b ≡ 0xED = grind (arith, nat_tests) in
        take_row ((0xED, 0xED) ∷ (0x80, 0x9F) ∷ (0x80, 0xBF) ∷ []) (rows_from 5) (b ∷ x ∷ y ∷ rest)
        (fits_three (0xED, 0xED) (0x80, 0x9F) b x y rest (inside 0xED 0xED b le (omega (arith, is))) (inside 0x80 0x9F x m (no_surrogate is)) s t)
    from_4 le false e =
        let more : 0xED < b = grind (arith, nat_tests) in
        skip_row (0xED, 0xED) ((0x80, 0x9F) ∷ (0x80, 0xBF) ∷ []) (rows_from 5) b 3 (x ∷ y ∷ rest) (above 0xED 0xED b more) (from_5 (omega (arith, more)))

    from_3 : 0xE1 ≤ b → (d : Bool) → leb b 0xEC ≡ d → whole_len (rows_from 3) (b ∷ x ∷ y ∷ rest) ≡ 3
    from_3 le true e =
        let less : b ≤ 0xEC = grind (arith, nat_tests) in
        take_row ((0xE1, 0xEC) ∷ (0x80, 0xBF) ∷ (0x80, 0xBF) ∷ []) (rows_from 4) (b ∷ x ∷ y ∷ rest)
        (fits_three (0xE1, 0xEC) (0x80, 0xBF) b x y rest (inside 0xE1 0xEC b le less) (inside 0x80 0xBF x m k) s t)
    from_3 le false e =
        let more : 0xEC < b = grind (arith, nat_tests) in
        skip_row (0xE1, 0xEC) ((0x80, 0xBF) ∷ (0x80, 0xBF) ∷ []) (rows_from 4) b 3 (x ∷ y ∷ rest) (above 0xE1 0xEC b more) (from_4 (omega (arith, more)) (leb b 0xED) refl)

    from_2 : (d : Bool) → leb b 0xE0 ≡ d → whole_len (rows_from 2) (b ∷ x ∷ y ∷ rest) ≡ 3
    from_2 true e =
        let is : b ≡ 0xE0 = grind (arith, nat_tests) in
        take_row ((0xE0, 0xE0) ∷ (0xA0, 0xBF) ∷ (0x80, 0xBF) ∷ []) (rows_from 3) (b ∷ x ∷ y ∷ rest)
        (fits_three (0xE0, 0xE0) (0xA0, 0xBF) b x y rest (inside 0xE0 0xE0 b l (omega (arith, is))) (inside 0xA0 0xBF x (long is) k) s t)
    from_2 false e =
        let more : 0xE0 < b = grind (arith, nat_tests) in
        skip_row (0xE0, 0xE0) ((0xA0, 0xBF) ∷ (0x80, 0xBF) ∷ []) (rows_from 3) b 3 (x ∷ y ∷ rest) (above 0xE0 0xE0 b more) (from_3 (omega (arith, more)) (leb b 0xEC) refl)

-- four bytes fit a row of four ranges
fits_four : (r s : Range) (b x y z : ℕ) (rest : List ℕ) → in_range r b ≡ true → in_range s x ≡ true → 0x80 ≤ y → y ≤ 0xBF → 0x80 ≤ z → z ≤ 0xBF →
    fitting (r ∷ s ∷ (0x80, 0xBF) ∷ (0x80, 0xBF) ∷ []) (b ∷ x ∷ y ∷ z ∷ rest) ≡ 4
fits_four r s b x y z rest one two m k n o = grind (arith, common_steps, fits)

-- a first byte from F0 on fits none of the first six rows
skip_six : (b n : ℕ) (bytes : List ℕ) → 0xF0 ≤ b → whole_len (rows_from 6) (b ∷ bytes) ≡ n → whole_len well_formed_rows (b ∷ bytes) ≡ n
skip_six b n bytes l later = grind (arith, common_steps, skip_two, skip_row, above)

whole_four : (b x y z : ℕ) (rest : List ℕ) → 0xF0 ≤ b → b ≤ 0xF4 → 0x80 ≤ x → x ≤ 0xBF → (b ≡ 0xF0 → 0x90 ≤ x) → (b ≡ 0xF4 → x ≤ 0x8F) →
    0x80 ≤ y → y ≤ 0xBF → 0x80 ≤ z → z ≤ 0xBF → whole_len well_formed_rows (b ∷ x ∷ y ∷ z ∷ rest) ≡ 4
whole_four b x y z rest l h m k long not_past s t u v = skip_six b 4 (x ∷ y ∷ z ∷ rest) l (from_6 (leb b 0xF0) refl)
  where
    from_8 : 0xF4 ≤ b → whole_len (rows_from 8) (b ∷ x ∷ y ∷ z ∷ rest) ≡ 4
    from_8 le =
        let is : b ≡ 0xF4 = omega arith in
        take_row ((0xF4, 0xF4) ∷ (0x80, 0x8F) ∷ (0x80, 0xBF) ∷ (0x80, 0xBF) ∷ []) [] (b ∷ x ∷ y ∷ z ∷ rest)
        (fits_four (0xF4, 0xF4) (0x80, 0x8F) b x y z rest (inside 0xF4 0xF4 b le h) (inside 0x80 0x8F x m (not_past is)) s t u v)

    from_7 : 0xF1 ≤ b → (d : Bool) → leb b 0xF3 ≡ d → whole_len (rows_from 7) (b ∷ x ∷ y ∷ z ∷ rest) ≡ 4
    from_7 le true e =
        let less : b ≤ 0xF3 = grind (arith, nat_tests) in
        take_row ((0xF1, 0xF3) ∷ (0x80, 0xBF) ∷ (0x80, 0xBF) ∷ (0x80, 0xBF) ∷ []) (rows_from 8) (b ∷ x ∷ y ∷ z ∷ rest)
        (fits_four (0xF1, 0xF3) (0x80, 0xBF) b x y z rest (inside 0xF1 0xF3 b le less) (inside 0x80 0xBF x m k) s t u v)
    from_7 le false e =
        let more : 0xF3 < b = grind (arith, nat_tests) in
        skip_row (0xF1, 0xF3) ((0x80, 0xBF) ∷ (0x80, 0xBF) ∷ (0x80, 0xBF) ∷ []) (rows_from 8) b 4 (x ∷ y ∷ z ∷ rest) (above 0xF1 0xF3 b more) (from_8 (omega (arith, more)))

    from_6 : (d : Bool) → leb b 0xF0 ≡ d → whole_len (rows_from 6) (b ∷ x ∷ y ∷ z ∷ rest) ≡ 4
    from_6 true e =
        let is : b ≡ 0xF0 = grind (arith, nat_tests) in
        take_row ((0xF0, 0xF0) ∷ (0x90, 0xBF) ∷ (0x80, 0xBF) ∷ (0x80, 0xBF) ∷ []) (rows_from 7) (b ∷ x ∷ y ∷ z ∷ rest)
        (fits_four (0xF0, 0xF0) (0x90, 0xBF) b x y z rest (inside 0xF0 0xF0 b l (omega (arith, is))) (inside 0x90 0xBF x (long is) k) s t u v)
    from_6 false e =
        let more : 0xF0 < b = grind (arith, nat_tests) in
        skip_row (0xF0, 0xF0) ((0x90, 0xBF) ∷ (0x80, 0xBF) ∷ (0x80, 0xBF) ∷ []) (rows_from 7) b 4 (x ∷ y ∷ z ∷ rest) (above 0xF0 0xF0 b more) (from_7 (omega (arith, more)) (leb b 0xF3) refl)

-- the piece of a whole character, by its value and length
abbrev pub whole : ℕ → ℕ → Piece
whole c n = record { decoded = Some c; len = n }

piece_is : (b c n : ℕ) (bytes : List ℕ) → whole_len well_formed_rows (b ∷ bytes) ≡ suc n → scalar_value (take (suc n) (b ∷ bytes)) ≡ c → front_piece (b ∷ bytes) ≡ whole c (suc n)
unfolding front_piece
piece_is b c n bytes e f = ap (λ (k : ℕ). piece_by k (b ∷ bytes)) e ∙ ap (λ (v : ℕ). whole v (suc n)) f

piece_one : (c : ℕ) (rest : List ℕ) → c < 0x80 → front_piece (c ∷ rest) ≡ whole c 1
piece_one c rest l =
    piece_is c c 0 rest
    (take_row ((0x00, 0x7F) ∷ []) (rows_from 1) (c ∷ rest) (fits (0x00, 0x7F) [] c 0 rest (inside 0x00 0x7F c (omega arith) (omega arith)) refl)) refl

piece_two : (c : ℕ) (rest : List ℕ) → 0x80 ≤ c → c < 0x800 → front_piece ((192 + c / 64) ∷ next c ∷ rest) ≡ whole c 2
piece_two c rest l h =
    piece_is (192 + c / 64) c 1 (next c ∷ rest) (whole_two (192 + c / 64) (next c) rest (omega arith) (omega arith) (omega arith) (omega arith)) (omega arith)

piece_three : (c : ℕ) (rest : List ℕ) → 0x800 ≤ c → c < 0x10000 → (c < 0xD800) ⊎ (0xE000 ≤ c) →
    front_piece ((224 + c / 4096) ∷ next (c / 64) ∷ next c ∷ rest) ≡ whole c 3
piece_three c rest l h scalar =
    piece_is (224 + c / 4096) c 2 (next (c / 64) ∷ next c ∷ rest)
    (whole_three (224 + c / 4096) (next (c / 64)) (next c) rest (omega arith) (omega arith) (omega arith) (omega arith) (λ e. omega (arith, e))
    (λ e. ⊎_elim (λ (low : c < 0xD800). omega (arith, e, low)) (λ (high : 0xE000 ≤ c). omega (arith, e, high)) scalar) (omega arith) (omega arith))
    (omega arith)

piece_four : (c : ℕ) (rest : List ℕ) → 0x10000 ≤ c → c < 0x110000 →
    front_piece ((240 + c / 262144) ∷ next (c / 4096) ∷ next (c / 64) ∷ next c ∷ rest) ≡ whole c 4
piece_four c rest l h =
    piece_is (240 + c / 262144) c 3 (next (c / 4096) ∷ next (c / 64) ∷ next c ∷ rest)
    (whole_four (240 + c / 262144) (next (c / 4096)) (next (c / 64)) (next c) rest (omega arith) (omega arith) (omega arith) (omega arith)
    (λ e. omega (arith, e)) (λ e. omega (arith, e)) (omega arith) (omega arith) (omega arith) (omega arith))
    (omega arith)

-- ## The bytes of a scalar value

-- the piece that a character's bytes make, by the three tests on its size
abbrev IsPiece : ℕ → List ℕ → Bool → Bool → Bool → Type 0
IsPiece c rest one two three =
    front_piece (cond one (c ∷ []) (cond two ((192 + c / 64) ∷ next c ∷ []) (cond three ((224 + c / 4096) ∷ next (c / 64) ∷ next c ∷ []) ((240 + c / 262144) ∷ next (c / 4096) ∷ next (c / 64) ∷ next c ∷ []))) ++ rest)
    ≡ whole c (cond one 1 (cond two 2 (cond three 3 4)))

not_surrogate : (c : ℕ) → (c < 55296) ⊎ ((57344 ≤ c) × (c < 1114112)) → (c < 0xD800) ⊎ (0xE000 ≤ c)
not_surrogate c (inl low) = inl low
not_surrogate c (inr high) = inr high.0

not_past : (c : ℕ) → (c < 55296) ⊎ ((57344 ≤ c) × (c < 1114112)) → c < 0x110000
not_past c (inl low) = omega (arith, low)
not_past c (inr high) = high.1

by_size : (c : ℕ) (rest : List ℕ) → IsScalar c → (one : Bool) → ltb c 128 ≡ one → (two : Bool) → ltb c 2048 ≡ two → (three : Bool) → ltb c 65536 ≡ three → IsPiece c rest one two three
by_size c rest s true e two f three g = piece_one c rest (ltb-true c 128 e)
by_size c rest s false e true f three g = piece_two c rest (ltb-false c 128 e) (ltb-true c 2048 f)
by_size c rest s false e false f true g = piece_three c rest (ltb-false c 2048 f) (ltb-true c 65536 g) (not_surrogate c (scalar_cases c s))
by_size c rest s false e false f false g = piece_four c rest (ltb-false c 65536 g) (not_past c (scalar_cases c s))

-- where the bytes of a character stand, the piece is that whole character
pub scalar_piece : (c : ℕ) (rest : List ℕ) → IsScalar c → front_piece (encode_utf8 c ++ rest) ≡ whole c (len_utf8 c)
unfolding encode_utf8
scalar_piece c rest s = by_size c rest s (ltb c 128) refl (ltb c 2048) refl (ltb c 65536) refl
