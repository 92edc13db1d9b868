-- The bytes of a piece and its character: both are ASCII, or none is.
use Rattle.std.proofs.lemmas.Grind.{common_steps}
use Rattle.std.proofs.Common.{◌≡◌, ℕ, zero, suc, ◌+◌, ◌-◌, ◌*◌, ◌<◌, ◌≤◌, Bool, true, false, cond, ◌&&◌, max, List, [], ◌∷◌, length, get_or, drop, Some, length-drop, refl, sym, ap, ap₂, ◌∙◌, subst, ⊎_elim, ◌⊎◌, arith, true≢false, rules}
use Rattle.std.specs.Prelude.{◌==◌, nat_le, slice_get}
use Rattle.std.proofs.lemmas.Bool.{cases_Bool}
use Rattle.std.proofs.lemmas.Bool.Decides.{nat_tests}
use Rattle.bites_spec.specs.Range.{Range, in_range}
use Rattle.std.proofs.lemmas.Option.{none-some}
use Rattle.bites_spec.specs.Utf8.{Piece, piece, front_piece, piece_by, character, fitting, whole_len, begun_len, well_formed_rows}
use Rattle.bites_spec.proofs.utf8.PieceLemmas.{piece_within}

-- bytes of the rest
pub at_drop : (hay : List ℕ) (i k : ℕ) → slice_get (drop i hay) k ≡ slice_get hay (i + k)
at_drop hay zero k = grind arith
at_drop [] (suc i) k = refl
at_drop (b ∷ hay) (suc i) k = grind (arith, common_steps, (at_drop hay i k))

pub some_at : (bytes : List ℕ) (k : ℕ) → k < length bytes → (x : ℕ) × (slice_get bytes k ≡ Some x)
some_at [] k lt = absurd (omega arith)
some_at (b ∷ bytes) zero lt = (b, refl)
some_at (b ∷ bytes) (suc k) lt = some_at bytes k (omega arith)

-- an ASCII byte is a piece
pub ascii : (b : ℕ) (rest : List ℕ) → b < 128 → front_piece (b ∷ rest) ≡ record { decoded = Some b; len = 1 }
unfolding front_piece
ascii b rest lt = let e : in_range (0x00, 0x7F) b ≡ true = grind (arith, nat_tests) in rw e refl

-- each range begins past ASCII
abbrev IsHigh : List Range → Type 0
IsHigh [] = Unit {0}
IsHigh (r ∷ rs) = (128 ≤ r.0) × IsHigh rs

in_high : (r : Range) (b : ℕ) → in_range r b ≡ true → 128 ≤ r.0 → 128 ≤ b
in_high r b e le = low (nat_le r.0 b) (nat_le b r.1) refl e
  where
    low : (x y : Bool) → nat_le r.0 b ≡ x → (x && y) ≡ true → 128 ≤ b
    low true y is h = grind (arith, nat_tests)
    low false y is h = absurd (true≢false (sym h))

fit_high : (row : List Range) → IsHigh row → (bytes : List ℕ) (k x : ℕ) → k < fitting row bytes → slice_get bytes k ≡ Some x → 128 ≤ x
fit_high [] high bytes k x lt e = absurd (omega arith)
fit_high (r ∷ row) high [] k x lt e = absurd (omega arith)
fit_high (r ∷ row) high (b ∷ bytes) k x lt e = by_fit (in_range r b) refl k lt e (λ j. fit_high row high.1 bytes j x)
  where
    by_fit : (c : Bool) → in_range r b ≡ c → (k : ℕ) → k < cond c (suc (fitting row bytes)) 0 → slice_get (b ∷ bytes) k ≡ Some x →
        ((j : ℕ) → j < fitting row bytes → slice_get bytes j ≡ Some x → 128 ≤ x) → 128 ≤ x
    by_fit false is k lt e more = absurd (omega arith)
    by_fit true is zero lt e more = subst (λ n. 128 ≤ n) (let same : b ≡ x = cc in same) (in_high r b is high.0)
    by_fit true is (suc k) lt e more = more k (omega arith) e

abbrev AreHigh : List (List Range) → Type 0
AreHigh [] = Unit {0}
AreHigh (row ∷ rows) = IsHigh row × AreHigh rows

whole_high : (rows : List (List Range)) → AreHigh rows → (bytes : List ℕ) (k x : ℕ) → k < whole_len rows bytes → slice_get bytes k ≡ Some x → 128 ≤ x
whole_high [] high bytes k x lt e = absurd (omega arith)
whole_high (row ∷ rows) high bytes k x lt e =
    by_row (fitting row bytes == length row) lt (λ less. fit_high row high.0 bytes k x less e) (λ less. whole_high rows high.1 bytes k x less e)
  where
    by_row : (c : Bool) → k < cond c (fitting row bytes) (whole_len rows bytes) → (k < fitting row bytes → 128 ≤ x) → (k < whole_len rows bytes → 128 ≤ x) → 128 ≤ x
    by_row true less here there = here less
    by_row false less here there = there less

begun_high : (rows : List (List Range)) → AreHigh rows → (bytes : List ℕ) (k x : ℕ) → k < begun_len rows bytes → slice_get bytes k ≡ Some x → 128 ≤ x
begun_high [] high bytes k x lt e = absurd (omega arith)
begun_high (row ∷ rows) high bytes k x lt e =
    ⊎_elim (λ (a : k < fitting row bytes). fit_high row high.0 bytes k x a e) (λ (a : k < begun_len rows bytes). begun_high rows high.1 bytes k x a e)
    (of_max k (fitting row bytes) (begun_len rows bytes) lt)
  where
    of_max : (k a b : ℕ) → k < max a b → (k < a) ⊎ (k < b)
    of_max k a b lt = grind arith

-- the rows past ASCII
abbrev high_rows : List (List Range)
high_rows = drop 1 well_formed_rows

rows_high : AreHigh high_rows
rows_high = search rules

-- the first row fits no byte past ASCII
skip_first : (b : ℕ) (rest : List ℕ) → 128 ≤ b → (whole_len well_formed_rows (b ∷ rest) ≡ whole_len high_rows (b ∷ rest)) × (begun_len well_formed_rows (b ∷ rest) ≡ begun_len high_rows (b ∷ rest))
skip_first b rest le = grind (arith, common_steps, nat_tests)

-- each byte of a piece past ASCII is past ASCII
pub bytes_high : (b : ℕ) (rest : List ℕ) → 128 ≤ b → (k x : ℕ) → k < (front_piece (b ∷ rest)).len → slice_get (b ∷ rest) k ≡ Some x → 128 ≤ x
unfolding front_piece
bytes_high b rest le k x lt e = by_len (whole_len well_formed_rows (b ∷ rest)) refl lt
  where
    by_len : (n : ℕ) → whole_len well_formed_rows (b ∷ rest) ≡ n → k < (piece_by n (b ∷ rest)).len → 128 ≤ x
    by_len (suc n) is less = whole_high high_rows rows_high (b ∷ rest) k x (let s = (skip_first b rest le).0 in omega arith) e
    by_len zero is less =
        ⊎_elim (λ (z : k ≡ 0). subst (λ n. 128 ≤ n) (let same : Some b ≡ Some x = ap (slice_get (b ∷ rest)) (sym z) ∙ e in let is : b ≡ x = cc in is) le)
        (λ (z : k < begun_len well_formed_rows (b ∷ rest)). begun_high high_rows rows_high (b ∷ rest) k x (let s = (skip_first b rest le).1 in omega arith) e)
        (of_one k (begun_len well_formed_rows (b ∷ rest)) less)
      where
        of_one : (k n : ℕ) → k < max 1 n → (k ≡ 0) ⊎ (k < n)
        of_one k n lt = grind arith

-- the first two bytes of a row that fits whole
record FirstTwo (r s : Range) (row : List Range) (b : ℕ) (bytes : List ℕ) : Type 0 where
  x : ℕ
  rest : List ℕ
  is : bytes ≡ x ∷ rest
  first : in_range r b ≡ true
  second : in_range s x ≡ true
  more : fitting row rest ≡ length row

first_two : (r s : Range) (row : List Range) (b : ℕ) (bytes : List ℕ) → fitting (r ∷ s ∷ row) (b ∷ bytes) ≡ length (r ∷ s ∷ row) → FirstTwo r s row b bytes
first_two r s row b [] e = grind arith
first_two r s row b (x ∷ rest) e =
    ⊎_elim
    (λ (one : in_range r b ≡ true).
    ⊎_elim
    (λ (two : in_range s x ≡ true).
    let z = sym (ap₂ (λ c d. cond c (suc (cond d (suc (fitting row rest)) 0)) 0) one two) ∙ e in
    record { x = x; rest = rest; is = refl; first = one; second = two; more = omega arith })
    (λ (two : in_range s x ≡ false).
    let z = sym (ap₂ (λ c d. cond c (suc (cond d (suc (fitting row rest)) 0)) 0) one two) ∙ e in absurd (omega arith))
    (cases_Bool (in_range s x)))
    (λ (one : in_range r b ≡ false).
    let z = sym (ap (λ c. cond c (suc (cond (in_range s x) (suc (fitting row rest)) 0)) 0) one) ∙ e in absurd (omega arith))
    (cases_Bool (in_range r b))

module _ (b : ℕ) (bytes : List ℕ) where
  abbrev Past : ℕ → Type 0
  Past n = 128 ≤ character (piece_by n (b ∷ bytes))

  -- a row of two, three or four ranges
  past_two : (lo hi : ℕ) → 0xC2 ≤ lo → fitting ((lo, hi) ∷ (0x80, 0xBF) ∷ []) (b ∷ bytes) ≡ 2 → Past 2
  past_two lo hi le e =
      let t = first_two (lo, hi) (0x80, 0xBF) [] b bytes e in
      subst (λ l. 128 ≤ character (piece_by 2 (b ∷ l))) (sym t.is)
      (let f = t.first in let x = t.x in let g : 0xC2 ≤ b = from lo hi le b f in value b x g)
    where
      from : (lo hi : ℕ) → 0xC2 ≤ lo → (b : ℕ) → in_range (lo, hi) b ≡ true → 0xC2 ≤ b
      from lo hi le b e = grind (arith, nat_tests)

      value : (b x : ℕ) → 0xC2 ≤ b → 128 ≤ (b - 0xC0) * 64 + (x - 0x80)
      value b x le = omega arith

  past_three : (r s : Range) → ((x : ℕ) → in_range r b ≡ true → in_range s x ≡ true → 2 ≤ (b - 0xE0) * 64 + (x - 0x80)) →
      fitting (r ∷ s ∷ (0x80, 0xBF) ∷ []) (b ∷ bytes) ≡ 3 → Past 3
  past_three r s wide e = grind (arith, common_steps, first_two)

  past_four : (r s : Range) → ((x : ℕ) → in_range r b ≡ true → in_range s x ≡ true → 1 ≤ (b - 0xF0) * 64 + (x - 0x80)) →
      fitting (r ∷ s ∷ (0x80, 0xBF) ∷ (0x80, 0xBF) ∷ []) (b ∷ bytes) ≡ 4 → Past 4
  past_four r s wide e = grind (arith, common_steps, first_two)

  -- the row that fits whole, or the next ones
  by_row : (row : List Range) (rows : List (List Range)) → (fitting row (b ∷ bytes) ≡ length row → Past (length row)) → Past (whole_len rows (b ∷ bytes)) →
      Past (whole_len (row ∷ rows) (b ∷ bytes))
  by_row row rows here there =
      ⊎_elim
      (λ (e : (fitting row (b ∷ bytes) == length row) ≡ true).
      let is : fitting row (b ∷ bytes) ≡ length row = grind (arith, nat_tests) in
      subst (λ c. Past (cond c (fitting row (b ∷ bytes)) (whole_len rows (b ∷ bytes)))) (sym e) (subst Past (sym is) (here is)))
      (λ (e : (fitting row (b ∷ bytes) == length row) ≡ false).
      subst (λ c. Past (cond c (fitting row (b ∷ bytes)) (whole_len rows (b ∷ bytes)))) (sym e) there)
      (cases_Bool (fitting row (b ∷ bytes) == length row))

  abbrev from_row : ℕ → List (List Range)
  from_row n = drop n well_formed_rows

  past : Past (whole_len high_rows (b ∷ bytes))
  past =
      by_row ((0xC2, 0xDF) ∷ (0x80, 0xBF) ∷ []) (from_row 2) (past_two 0xC2 0xDF (omega arith))
      (by_row ((0xE0, 0xE0) ∷ (0xA0, 0xBF) ∷ (0x80, 0xBF) ∷ []) (from_row 3) (past_three (0xE0, 0xE0) (0xA0, 0xBF) (λ x e f. low_second x f))
      (by_row ((0xE1, 0xEC) ∷ (0x80, 0xBF) ∷ (0x80, 0xBF) ∷ []) (from_row 4) (past_three (0xE1, 0xEC) (0x80, 0xBF) (λ x e f. low_first 0xE1 0xEC x (omega arith) e))
      (by_row ((0xED, 0xED) ∷ (0x80, 0x9F) ∷ (0x80, 0xBF) ∷ []) (from_row 5) (past_three (0xED, 0xED) (0x80, 0x9F) (λ x e f. low_first 0xED 0xED x (omega arith) e))
      (by_row ((0xEE, 0xEF) ∷ (0x80, 0xBF) ∷ (0x80, 0xBF) ∷ []) (from_row 6) (past_three (0xEE, 0xEF) (0x80, 0xBF) (λ x e f. low_first 0xEE 0xEF x (omega arith) e))
      (by_row ((0xF0, 0xF0) ∷ (0x90, 0xBF) ∷ (0x80, 0xBF) ∷ (0x80, 0xBF) ∷ []) (from_row 7) (past_four (0xF0, 0xF0) (0x90, 0xBF) (λ x e f. four_second x f))
      (by_row ((0xF1, 0xF3) ∷ (0x80, 0xBF) ∷ (0x80, 0xBF) ∷ (0x80, 0xBF) ∷ []) (from_row 8) (past_four (0xF1, 0xF3) (0x80, 0xBF) (λ x e f. four_first 0xF1 0xF3 x (omega arith) e))
      (by_row ((0xF4, 0xF4) ∷ (0x80, 0x8F) ∷ (0x80, 0xBF) ∷ (0x80, 0xBF) ∷ []) (from_row 9) (past_four (0xF4, 0xF4) (0x80, 0x8F) (λ x e f. four_first 0xF4 0xF4 x (omega arith) e))
      (omega arith))))))))
    where
      low_second : (x : ℕ) → in_range (0xA0, 0xBF) x ≡ true → 2 ≤ (b - 0xE0) * 64 + (x - 0x80)
      low_second x f = let g : 0xA0 ≤ x = grind (arith, nat_tests) in omega arith

      low_first : (lo hi x : ℕ) → 0xE1 ≤ lo → in_range (lo, hi) b ≡ true → 2 ≤ (b - 0xE0) * 64 + (x - 0x80)
      low_first lo hi x le e = let g : lo ≤ b = grind (arith, nat_tests) in omega arith

      four_second : (x : ℕ) → in_range (0x90, 0xBF) x ≡ true → 1 ≤ (b - 0xF0) * 64 + (x - 0x80)
      four_second x f = let g : 0x90 ≤ x = grind (arith, nat_tests) in omega arith

      four_first : (lo hi x : ℕ) → 0xF1 ≤ lo → in_range (lo, hi) b ≡ true → 1 ≤ (b - 0xF0) * 64 + (x - 0x80)
      four_first lo hi x le e = let g : lo ≤ b = grind (arith, nat_tests) in omega arith

  -- the character of a piece past ASCII is past ASCII
  pub character_high : 128 ≤ b → 128 ≤ character (front_piece (b ∷ bytes))
  unfolding front_piece
  character_high le = subst Past (sym (skip_first b bytes le).0) past

-- ## At a place of a haystack

get_is : (xs : List ℕ) (k x : ℕ) → slice_get xs k ≡ Some x → get_or xs k 0 ≡ x
get_is [] k x e = absurd (none-some x e)
get_is (y ∷ xs) zero x e = cc
get_is (y ∷ xs) (suc k) x e = get_is xs k x e

-- the byte of the haystack that stands in the piece
byte_in : (hay : List ℕ) (i k b : ℕ) (rest : List ℕ) → drop i hay ≡ b ∷ rest → k < length (b ∷ rest) → (x : ℕ) × (slice_get (b ∷ rest) k ≡ Some x) × (get_or hay (i + k) 0 ≡ x)
byte_in hay i k b rest e lt =
    let x = some_at (b ∷ rest) k lt in
    (x.0, x.1, get_is hay (i + k) x.0 (sym (at_drop hay i k) ∙ ap (λ (l : List ℕ). slice_get l k) e ∙ x.1))

no_piece : (front_piece []).len ≡ 0
unfolding front_piece
no_piece = refl

-- what a piece is whose first byte is this one
record Front (hay : List ℕ) (i : ℕ) : Type 0 where
  byte : ℕ
  rest : List ℕ
  is : drop i hay ≡ byte ∷ rest
  piece_is : piece hay i ≡ front_piece (byte ∷ rest)
  first : get_or hay i 0 ≡ byte
  within : i < length hay

front_of : (hay : List ℕ) (i : ℕ) → 0 < (piece hay i).len → Front hay i
unfolding piece
front_of hay i some = by (drop i hay) refl
  where
    by : (bytes : List ℕ) → drop i hay ≡ bytes → Front hay i
    by [] e =
        let none : (front_piece (drop i hay)).len ≡ 0 = ap (λ l. (front_piece l).len) e ∙ no_piece in absurd (omega (arith, none, some))
    by (b ∷ rest) e =
        let at : i + 0 ≡ i = omega arith in
        let x = byte_in hay i 0 b rest e (omega arith) in
        let same : Some b ≡ Some x.0 = x.1 in
        record {
          byte = b;
          rest = rest;
          is = e;
          piece_is = ap front_piece e;
          first = ap (λ k. get_or hay k 0) (sym at) ∙ x.2 ∙ sym (let is : b ≡ x.0 = cc in is);
          within = omega (arith, ap length e, length-drop i hay);
        }

split : (b : ℕ) → (b < 128) ⊎ (128 ≤ b)
split b = grind arith

-- an ASCII character is one byte
pub record IsAscii (hay : List ℕ) (i : ℕ) : Type 0 where
  pub one : (piece hay i).len ≡ 1
  pub byte : get_or hay i 0 ≡ character (piece hay i)
  pub within : i < length hay

pub ascii_character : (hay : List ℕ) (i : ℕ) → 0 < (piece hay i).len → character (piece hay i) < 128 → IsAscii hay i
ascii_character hay i some low = by (front_of hay i some)
  where
    by : Front hay i → IsAscii hay i
    by f =
        ⊎_elim
        (λ (lt : f.byte < 128).
        let is = f.piece_is ∙ ascii f.byte f.rest lt in
        record { one = ap (λ (p : Piece). p.len) is; byte = f.first ∙ sym (ap character is); within = f.within })
        (λ (le : 128 ≤ f.byte).
        let high = character_high f.byte f.rest le in
        let same : character (piece hay i) ≡ character (front_piece (f.byte ∷ f.rest)) = ap character f.piece_is in
        absurd (omega (arith, low, high, same)))
        (split f.byte)

-- an ASCII byte of a piece is all of it
pub record IsByteOf (hay : List ℕ) (i k : ℕ) : Type 0 where
  pub same : k ≡ i
  pub character_is : character (piece hay i) ≡ get_or hay k 0
  pub one : (piece hay i).len ≡ 1

pub ascii_byte : (hay : List ℕ) (i k : ℕ) → i ≤ length hay → i ≤ k → k < i + (piece hay i).len → get_or hay k 0 < 128 → IsByteOf hay i k
ascii_byte hay i k within le lt low = by (front_of hay i (omega arith))
  where
    by : Front hay i → IsByteOf hay i k
    by f =
        ⊎_elim
        (λ (small : f.byte < 128).
        let is = f.piece_is ∙ ascii f.byte f.rest small in
        let one : (piece hay i).len ≡ 1 = ap (λ (p : Piece). p.len) is in
        let same : k ≡ i = omega (arith, one, lt) in
        record { same = same; character_is = ap character is ∙ sym f.first ∙ ap (λ p. get_or hay p 0) (sym same); one = one })
        (λ (high : 128 ≤ f.byte).
        let there : i + (k - i) ≡ k = omega arith in
        let len : (piece hay i).len ≡ (front_piece (f.byte ∷ f.rest)).len = ap (λ (p : Piece). p.len) f.piece_is in
        let fits : length (f.byte ∷ f.rest) ≡ length hay - i = ap length (sym f.is) ∙ length-drop i hay in
        let x = byte_in hay i (k - i) f.byte f.rest f.is (omega (arith, fits, piece_within hay i within, lt)) in
        let large = bytes_high f.byte f.rest high (k - i) x.0 (omega (arith, len, lt)) x.1 in
        let same : get_or hay k 0 ≡ x.0 = ap (λ p. get_or hay p 0) (sym there) ∙ x.2 in
        absurd (omega (arith, low, large, same)))
        (split f.byte)

-- ## The length of a piece

fitting_row : (row : List Range) (bytes : List ℕ) → fitting row bytes ≤ length row
fitting_row [] bytes = omega arith
fitting_row (r ∷ row) [] = omega arith
fitting_row (r ∷ row) (b ∷ bytes) = grind (arith, common_steps, (fitting_row row bytes))

abbrev AreShort : List (List Range) → Type 0
AreShort [] = Unit {0}
AreShort (row ∷ rows) = (length row ≤ 4) × AreShort rows

whole_short : (rows : List (List Range)) → AreShort rows → (bytes : List ℕ) → whole_len rows bytes ≤ 4
whole_short [] short bytes = omega arith
whole_short (row ∷ rows) short bytes = by (fitting row bytes == length row) (fitting_row row bytes) (whole_short rows short.1 bytes)
  where
    by : (c : Bool) → fitting row bytes ≤ length row → whole_len rows bytes ≤ 4 → cond c (fitting row bytes) (whole_len rows bytes) ≤ 4
    by true le more = omega (arith, le, short.0)
    by false le more = more

begun_short : (rows : List (List Range)) → AreShort rows → (bytes : List ℕ) → begun_len rows bytes ≤ 4
begun_short [] short bytes = omega arith
begun_short (row ∷ rows) short bytes = omega (arith, fitting_row row bytes, begun_short rows short.1 bytes, short.0)

rows_short : AreShort well_formed_rows
rows_short = search rules

-- a piece has at most four bytes
pub piece_short : (hay : List ℕ) (i : ℕ) → (piece hay i).len ≤ 4
unfolding piece front_piece
piece_short hay i = by (drop i hay)
  where
    by_len : (n : ℕ) (bytes : List ℕ) → n ≤ 4 → (piece_by n bytes).len ≤ 4
    by_len zero bytes le = omega (arith, begun_short well_formed_rows rows_short bytes)
    by_len (suc n) bytes le = le

    by : (bytes : List ℕ) → (front_piece bytes).len ≤ 4
    by [] = omega arith
    by (b ∷ bytes) = by_len (whole_len well_formed_rows (b ∷ bytes)) (b ∷ bytes) (whole_short well_formed_rows rows_short (b ∷ bytes))
