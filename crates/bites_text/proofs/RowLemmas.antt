-- The row of a first byte, and the first piece that it leads to.
use Rattle.std.proofs.Common.{◌≡◌, ℕ, suc, ◌<◌, ◌≤◌, Bool, true, false, cond, max, List, [], ◌∷◌, length, take, Some, None, refl, sym, ap, ◌∙◌, subst, arith, ◌⊎◌, inl, inr, ⊎_elim}
use Rattle.std.specs.Prelude.{◌==◌, filter}
use Rattle.std.proofs.lemmas.Bool.Decides.{nat_tests}
use Rattle.std.proofs.lemmas.Bool.{cases_Bool}
use Rattle.bites_spec.specs.Range.{Range, in_range}
use Rattle.bites_spec.specs.Utf8.{Piece, front_piece, piece_by, fitting, whole_len, begun_len, well_formed_rows, continuation, scalar_value}
use Rattle.bites_text.specs.Rows.{second_range}

-- a test is true or false
-- the first byte of the row may be this one; an empty row stays too
begins : ℕ → List Range → Bool
begins b [] = true
begins b (r ∷ row) = in_range r b

kept : (r : Range) (row : List Range) (rows : List (List Range)) (b : ℕ) → in_range r b ≡ true → filter (begins b) ((r ∷ row) ∷ rows) ≡ (r ∷ row) ∷ filter (begins b) rows
unfolding begins
kept r row rows b is = ap (λ t. cond t ((r ∷ row) ∷ filter (begins b) rows) (filter (begins b) rows)) is

dropped : (r : Range) (row : List Range) (rows : List (List Range)) (b : ℕ) → in_range r b ≡ false → filter (begins b) ((r ∷ row) ∷ rows) ≡ filter (begins b) rows
unfolding begins
dropped r row rows b is = ap (λ t. cond t ((r ∷ row) ∷ filter (begins b) rows) (filter (begins b) rows)) is

unfit : (r : Range) (row : List Range) (b : ℕ) (rest : List ℕ) → in_range r b ≡ false → fitting (r ∷ row) (b ∷ rest) ≡ 0
unfit r row b rest is = ap (λ t. cond t (suc (fitting row rest)) 0) is

zero-unlike : (n : ℕ) → (0 == suc n) ≡ false
zero-unlike n = grind (arith, nat_tests)

whole_len-filter : (rows : List (List Range)) (b : ℕ) (rest : List ℕ) → whole_len rows (b ∷ rest) ≡ whole_len (filter (begins b) rows) (b ∷ rest)
unfolding begins
whole_len-filter [] b rest = refl
whole_len-filter ([] ∷ rows) b rest = refl
whole_len-filter ((r ∷ row) ∷ rows) b rest =
    let later = whole_len-filter rows b rest in
    ⊎_elim
    (λ is. ap (λ w. cond (fitting (r ∷ row) (b ∷ rest) == suc (length row)) (fitting (r ∷ row) (b ∷ rest)) w) later ∙ sym (ap (λ left. whole_len left (b ∷ rest)) (kept r row rows b is)))
    (λ is. ap (λ f. cond (f == suc (length row)) f (whole_len rows (b ∷ rest))) (unfit r row b rest is) ∙ ap (λ t. cond t 0 (whole_len rows (b ∷ rest))) (zero-unlike (length row)) ∙ later ∙ sym (ap (λ left. whole_len left (b ∷ rest)) (dropped r row rows b is)))
    (cases_Bool (in_range r b))

begun_len-filter : (rows : List (List Range)) (b : ℕ) (rest : List ℕ) → begun_len rows (b ∷ rest) ≡ begun_len (filter (begins b) rows) (b ∷ rest)
unfolding begins
begun_len-filter [] b rest = refl
begun_len-filter ([] ∷ rows) b rest = ap (λ n. max 0 n) (begun_len-filter rows b rest)
begun_len-filter ((r ∷ row) ∷ rows) b rest =
    let later = begun_len-filter rows b rest in
    ⊎_elim
    (λ is. ap (λ n. max (fitting (r ∷ row) (b ∷ rest)) n) later ∙ sym (ap (λ left. begun_len left (b ∷ rest)) (kept r row rows b is)))
    (λ is. ap (λ f. max f (begun_len rows (b ∷ rest))) (unfit r row b rest is) ∙ max-zero (begun_len rows (b ∷ rest)) ∙ later ∙ sym (ap (λ left. begun_len left (b ∷ rest)) (dropped r row rows b is)))
    (cases_Bool (in_range r b))
  where
    max-zero : (n : ℕ) → max 0 n ≡ n
    max-zero n = omega arith

-- the piece of a row whose bytes after the first are these, where they all fit and where they do not
unfoldable pub chosen : List Range → ℕ → List ℕ → Bool → Piece
chosen row b rest true = record { decoded = Some (scalar_value (b ∷ take (length row) rest)); len = suc (length row) }
chosen row b rest false = record { decoded = None; len = suc (fitting row rest) }

-- the first piece, where this row alone begins with the first byte
unfoldable pub row_piece : List Range → ℕ → List ℕ → Piece
row_piece row b rest = chosen row b rest (fitting row rest == length row)

suc-same : (m n : ℕ) → (suc m == suc n) ≡ (m == n)
suc-same m n = grind (arith, nat_tests)

whole_len-one : (r : Range) (row : List Range) (b : ℕ) (rest : List ℕ) → in_range r b ≡ true → whole_len ((r ∷ row) ∷ []) (b ∷ rest) ≡ cond (fitting row rest == length row) (suc (fitting row rest)) 0
whole_len-one r row b rest is = simp (is, suc-same (fitting row rest) (length row))

begun_len-one : (r : Range) (row : List Range) (b : ℕ) (rest : List ℕ) → in_range r b ≡ true → begun_len ((r ∷ row) ∷ []) (b ∷ rest) ≡ suc (fitting row rest)
begun_len-one r row b rest is = simp is (omega arith)

same_number : (m n : ℕ) → (m == n) ≡ true → m ≡ n
same_number m n t = grind (arith, nat_tests)

abbrev OnlyRow : Range → List Range → ℕ → Type 0
OnlyRow r row b = filter (begins b) well_formed_rows ≡ (r ∷ row) ∷ []

-- where a first byte has one row, the first piece is that row's
one_row : (r : Range) (row : List Range) (b : ℕ) (rest : List ℕ) → in_range r b ≡ true → OnlyRow r row b → front_piece (b ∷ rest) ≡ row_piece row b rest
unfolding front_piece row_piece chosen
one_row r row b rest is only =
    ⊎_elim
    (λ all.
    let n = same_number (fitting row rest) (length row) all in
    ap (λ w. piece_by w (b ∷ rest)) (whole ∙ ap (λ t. cond t (suc (fitting row rest)) 0) all ∙ ap suc n) ∙ sym (ap (chosen row b rest) all))
    (λ part.
    ap (λ w. piece_by w (b ∷ rest)) (whole ∙ ap (λ t. cond t (suc (fitting row rest)) 0) part) ∙ ap (λ n. let p : Piece = record { decoded = None; len = max 1 n } in p) begun ∙ ap (λ n. let p : Piece = record { decoded = None; len = n } in p) (max-one (fitting row rest)) ∙ sym (ap (chosen row b rest) part))
    (cases_Bool (fitting row rest == length row))
  where
    whole : whole_len well_formed_rows (b ∷ rest) ≡ cond (fitting row rest == length row) (suc (fitting row rest)) 0
    whole = whole_len-filter well_formed_rows b rest ∙ ap (λ rows. whole_len rows (b ∷ rest)) only ∙ whole_len-one r row b rest is

    begun : begun_len well_formed_rows (b ∷ rest) ≡ suc (fitting row rest)
    begun = begun_len-filter well_formed_rows b rest ∙ ap (λ rows. begun_len rows (b ∷ rest)) only ∙ begun_len-one r row b rest is

    max-one : (n : ℕ) → max 1 (suc n) ≡ suc n
    max-one n = omega arith

inside : (lo hi b : ℕ) → lo ≤ b → b ≤ hi → in_range (lo, hi) b ≡ true
inside lo hi b l h = grind (arith, nat_tests)

only_00 : (b : ℕ) → 0x00 ≤ b → b ≤ 0x7F → OnlyRow (0x00, 0x7F) ([]) b
unfolding begins
only_00 b l h = grind (arith, nat_tests)

only_C2 : (b : ℕ) → 0xC2 ≤ b → b ≤ 0xDF → OnlyRow (0xC2, 0xDF) (continuation ∷ []) b
unfolding begins
only_C2 b l h = grind (arith, nat_tests)

only_E0 : OnlyRow (0xE0, 0xE0) ((0xA0, 0xBF) ∷ continuation ∷ []) 0xE0
unfolding begins
only_E0 = refl

only_E1 : (b : ℕ) → 0xE1 ≤ b → b ≤ 0xEC → OnlyRow (0xE1, 0xEC) (continuation ∷ continuation ∷ []) b
unfolding begins
only_E1 b l h = grind (arith, nat_tests)

only_ED : OnlyRow (0xED, 0xED) ((0x80, 0x9F) ∷ continuation ∷ []) 0xED
unfolding begins
only_ED = refl

only_EE : (b : ℕ) → 0xEE ≤ b → b ≤ 0xEF → OnlyRow (0xEE, 0xEF) (continuation ∷ continuation ∷ []) b
unfolding begins
only_EE b l h = grind (arith, nat_tests)

only_F0 : OnlyRow (0xF0, 0xF0) ((0x90, 0xBF) ∷ continuation ∷ continuation ∷ []) 0xF0
unfolding begins
only_F0 = refl

only_F1 : (b : ℕ) → 0xF1 ≤ b → b ≤ 0xF3 → OnlyRow (0xF1, 0xF3) (continuation ∷ continuation ∷ continuation ∷ []) b
unfolding begins
only_F1 b l h = grind (arith, nat_tests)

only_F4 : OnlyRow (0xF4, 0xF4) ((0x80, 0x8F) ∷ continuation ∷ continuation ∷ []) 0xF4
unfolding begins
only_F4 = refl

no_row : (b : ℕ) → ((0x7F < b) × (b < 0xC2)) ⊎ (0xF4 < b) → filter (begins b) well_formed_rows ≡ []
unfolding begins
no_row b h = grind (arith, nat_tests)

-- a byte of ASCII stands whole
pub ascii_piece : (b : ℕ) (rest : List ℕ) → b ≤ 0x7F → front_piece (b ∷ rest) ≡ record { decoded = Some b; len = 1 }
unfolding row_piece chosen
ascii_piece b rest h = one_row (0x00, 0x7F) [] b rest (inside 0x00 0x7F b (omega arith) h) (only_00 b (omega arith) h)

-- a byte that begins no row is a piece of its own
pub lone_piece : (b : ℕ) (rest : List ℕ) → ((0x7F < b) × (b < 0xC2)) ⊎ (0xF4 < b) → front_piece (b ∷ rest) ≡ record { decoded = None; len = 1 }
unfolding front_piece
lone_piece b rest h =
    ap (λ w. piece_by w (b ∷ rest)) (whole_len-filter well_formed_rows b rest ∙ ap (λ rows. whole_len rows (b ∷ rest)) (no_row b h)) ∙ ap (λ n. let p : Piece = record { decoded = None; len = max 1 n } in p) (begun_len-filter well_formed_rows b rest ∙ ap (λ rows. begun_len rows (b ∷ rest)) (no_row b h))

-- the row of a first byte from C2 to DF
pub two_row : (b : ℕ) (rest : List ℕ) → 0xC2 ≤ b → b ≤ 0xDF → front_piece (b ∷ rest) ≡ row_piece (continuation ∷ []) b rest
two_row b rest l h = one_row (0xC2, 0xDF) (continuation ∷ []) b rest (inside 0xC2 0xDF b l h) (only_C2 b l h)

plain_second : (b : ℕ) → ((0xE1 ≤ b) × (b ≤ 0xEC)) ⊎ ((0xEE ≤ b) × (b ≤ 0xEF)) ⊎ ((0xF1 ≤ b) × (b ≤ 0xF3)) → second_range b ≡ continuation
plain_second b h = grind (arith, nat_tests)

along : (b e : ℕ) (rest : List ℕ) (behind : List Range) → b ≡ e → front_piece (e ∷ rest) ≡ row_piece (second_range e ∷ behind) e rest → front_piece (b ∷ rest) ≡ row_piece (second_range b ∷ behind) b rest
along b e rest behind is h = subst (λ n. front_piece (n ∷ rest) ≡ row_piece (second_range n ∷ behind) n rest) (sym is) h

three_cases : (b : ℕ) → 0xE0 ≤ b → b ≤ 0xEF → (b ≡ 0xE0) ⊎ (((0xE1 ≤ b) × (b ≤ 0xEC)) ⊎ ((b ≡ 0xED) ⊎ ((0xEE ≤ b) × (b ≤ 0xEF))))
three_cases b l h = grind arith

-- the row of a first byte from E0 to EF
pub three_row : (b : ℕ) (rest : List ℕ) → 0xE0 ≤ b → b ≤ 0xEF → front_piece (b ∷ rest) ≡ row_piece (second_range b ∷ continuation ∷ []) b rest
three_row b rest l h =
    let usual : List Range = continuation ∷ [] in
    ⊎_elim (λ is. along b 0xE0 rest usual is (one_row (0xE0, 0xE0) ((0xA0, 0xBF) ∷ usual) 0xE0 rest refl only_E0))
    (⊎_elim (λ m. one_row (0xE1, 0xEC) (continuation ∷ usual) b rest (inside 0xE1 0xEC b m.0 m.1) (only_E1 b m.0 m.1) ∙ ap (λ r. row_piece (r ∷ usual) b rest) (sym (plain_second b (inl m))))
    (⊎_elim (λ is. along b 0xED rest usual is (one_row (0xED, 0xED) ((0x80, 0x9F) ∷ usual) 0xED rest refl only_ED))
    (λ m. one_row (0xEE, 0xEF) (continuation ∷ usual) b rest (inside 0xEE 0xEF b m.0 m.1) (only_EE b m.0 m.1) ∙ ap (λ r. row_piece (r ∷ usual) b rest) (sym (plain_second b (inr (inl m)))))))
    (three_cases b l h)

four_cases : (b : ℕ) → 0xF0 ≤ b → b ≤ 0xF4 → (b ≡ 0xF0) ⊎ (((0xF1 ≤ b) × (b ≤ 0xF3)) ⊎ (b ≡ 0xF4))
four_cases b l h = grind arith

-- the row of a first byte from F0 to F4
pub four_row : (b : ℕ) (rest : List ℕ) → 0xF0 ≤ b → b ≤ 0xF4 → front_piece (b ∷ rest) ≡ row_piece (second_range b ∷ continuation ∷ continuation ∷ []) b rest
four_row b rest l h =
    let usual : List Range = continuation ∷ continuation ∷ [] in
    ⊎_elim (λ is. along b 0xF0 rest usual is (one_row (0xF0, 0xF0) ((0x90, 0xBF) ∷ usual) 0xF0 rest refl only_F0))
    (⊎_elim (λ m. one_row (0xF1, 0xF3) (continuation ∷ usual) b rest (inside 0xF1 0xF3 b m.0 m.1) (only_F1 b m.0 m.1) ∙ ap (λ r. row_piece (r ∷ usual) b rest) (sym (plain_second b (inr (inr m)))))
    (λ is. along b 0xF4 rest usual is (one_row (0xF4, 0xF4) ((0x80, 0x8F) ∷ usual) 0xF4 rest refl only_F4)))
    (four_cases b l h)
