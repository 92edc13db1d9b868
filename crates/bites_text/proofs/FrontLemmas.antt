-- The first piece by the bytes after its first one, each read at its place.
use Rattle.std.proofs.Common.{◌≡◌, ℕ, ◌-◌, ◌<◌, ◌≤◌, Bool, true, false, List, [], ◌∷◌, length, drop, take, get_or, Option, Some, None, IsSome, IfSome, IsSomeAnd, refl, sym, ap, subst, ◌∙◌, arith, zero, suc, ◌⊎◌, inl, inr, ⊎_elim}
use Rattle.std.specs.Prelude.{◌==◌, slice_get}
use Rattle.std.specs.Option.{SomeIff}
use Rattle.std.specs.Char.{IsScalar, InScalarRange}
use Rattle.std.proofs.lemmas.List.{take_all}
use Rattle.std.proofs.lemmas.Bool.Decides.{nat_tests}
use Rattle.std.proofs.lemmas.Bool.{cases_Bool, cases_lt}
use Rattle.bites_spec.specs.Range.{Range, in_range}
use Rattle.bites_spec.specs.Utf8.{Piece, front_piece, fitting, character, continuation, scalar_value}
use Rattle.bites_spec.proofs.utf8.AsciiPieces.{character_high}
use Rattle.bites_text.specs.Rows.{lies_at, second_range}
use Rattle.bites_text.proofs.PieceFacts.{front_len}
use Rattle.bites_text.proofs.RowLemmas.{row_piece, chosen, ascii_piece, lone_piece, two_row, three_row, four_row}

-- bytes that are not a character
abbrev pub invalid : ℕ → Piece
invalid n = record { decoded = None; len = n }

-- a character by its bytes
abbrev pub whole : List ℕ → Piece
whole bytes = record { decoded = Some (scalar_value bytes); len = length bytes }

-- the byte after the first one, counted from 0, is there and lies in the range
pub record FitsAt (r : Range) (rest : List ℕ) (i : ℕ) : Type 0 where
  pub there : i < length rest
  pub lies : in_range r (get_or rest i 0) ≡ true

-- the byte is absent, or lies outside the range
abbrev pub StopsAt : Range → List ℕ → ℕ → Type 0
StopsAt r rest i = i < length rest → in_range r (get_or rest i 0) ≡ false

row_2_part_1 : (r : Range) (b : ℕ) (rest : List ℕ) → StopsAt r rest 0 → row_piece (r ∷ []) b rest ≡ invalid 1
unfolding row_piece chosen
row_2_part_1 r b [] stops = refl
row_2_part_1 r b (x ∷ rest) stops = let e = stops (omega arith) in simp e

row_2_whole : (r : Range) (b : ℕ) (rest : List ℕ) → FitsAt r rest 0 → row_piece (r ∷ []) b rest ≡ whole (b ∷ get_or rest 0 0 ∷ [])
unfolding row_piece chosen
row_2_whole r b [] first = absurd (omega (arith, first.there))
row_2_whole r b (x ∷ rest) first = let e = first.lies in simp e

row_3_part_1 : (r : Range) (b : ℕ) (rest : List ℕ) → StopsAt r rest 0 → row_piece (r ∷ continuation ∷ []) b rest ≡ invalid 1
unfolding row_piece chosen
row_3_part_1 r b [] stops = refl
row_3_part_1 r b (x ∷ rest) stops = let e = stops (omega arith) in simp e

row_3_part_2 : (r : Range) (b : ℕ) (rest : List ℕ) → FitsAt r rest 0 → StopsAt continuation rest 1 → row_piece (r ∷ continuation ∷ []) b rest ≡ invalid 2
unfolding row_piece chosen
row_3_part_2 r b [] first stops = absurd (omega (arith, first.there))
row_3_part_2 r b (x ∷ []) first stops = let e = first.lies in simp e
row_3_part_2 r b (x ∷ y ∷ rest) first stops = let e = first.lies in let f = stops (omega arith) in simp (e, f)

row_3_whole : (r : Range) (b : ℕ) (rest : List ℕ) → FitsAt r rest 0 → FitsAt continuation rest 1 → row_piece (r ∷ continuation ∷ []) b rest ≡ whole (b ∷ get_or rest 0 0 ∷ get_or rest 1 0 ∷ [])
unfolding row_piece chosen
row_3_whole r b [] first second = absurd (omega (arith, first.there))
row_3_whole r b (x ∷ []) first second = absurd (omega (arith, second.there))
row_3_whole r b (x ∷ y ∷ rest) first second = let e = first.lies in let f = second.lies in simp (e, f)

row_4_part_1 : (r : Range) (b : ℕ) (rest : List ℕ) → StopsAt r rest 0 → row_piece (r ∷ continuation ∷ continuation ∷ []) b rest ≡ invalid 1
unfolding row_piece chosen
row_4_part_1 r b [] stops = refl
row_4_part_1 r b (x ∷ rest) stops = let e = stops (omega arith) in simp e

row_4_part_2 : (r : Range) (b : ℕ) (rest : List ℕ) → FitsAt r rest 0 → StopsAt continuation rest 1 → row_piece (r ∷ continuation ∷ continuation ∷ []) b rest ≡ invalid 2
unfolding row_piece chosen
row_4_part_2 r b [] first stops = absurd (omega (arith, first.there))
row_4_part_2 r b (x ∷ []) first stops = let e = first.lies in simp e
row_4_part_2 r b (x ∷ y ∷ rest) first stops = let e = first.lies in let f = stops (omega arith) in simp (e, f)

row_4_part_3 : (r : Range) (b : ℕ) (rest : List ℕ) → FitsAt r rest 0 → FitsAt continuation rest 1 → StopsAt continuation rest 2 → row_piece (r ∷ continuation ∷ continuation ∷ []) b rest ≡ invalid 3
unfolding row_piece chosen
row_4_part_3 r b [] first second stops = absurd (omega (arith, first.there))
row_4_part_3 r b (x ∷ []) first second stops = absurd (omega (arith, second.there))
row_4_part_3 r b (x ∷ y ∷ []) first second stops = let e = first.lies in let f = second.lies in simp (e, f)
row_4_part_3 r b (x ∷ y ∷ z ∷ rest) first second stops =
    let e = first.lies in let f = second.lies in let g = stops (omega arith) in simp (e, f, g)

row_4_whole : (r : Range) (b : ℕ) (rest : List ℕ) → FitsAt r rest 0 → FitsAt continuation rest 1 → FitsAt continuation rest 2 → row_piece (r ∷ continuation ∷ continuation ∷ []) b rest ≡ whole (b ∷ get_or rest 0 0 ∷ get_or rest 1 0 ∷ get_or rest 2 0 ∷ [])
unfolding row_piece chosen
row_4_whole r b [] first second third = absurd (omega (arith, first.there))
row_4_whole r b (x ∷ []) first second third = absurd (omega (arith, second.there))
row_4_whole r b (x ∷ y ∷ []) first second third = absurd (omega (arith, third.there))
row_4_whole r b (x ∷ y ∷ z ∷ rest) first second third =
    let e = first.lies in let f = second.lies in let g = third.lies in simp (e, f, g)

-- a test of the byte at that place that was true
pub fits_at : (r : Range) (rest : List ℕ) (i : ℕ) (answer : Bool) → i < length rest → answer ≡ in_range r (get_or rest i 0) → answer ≡ true → FitsAt r rest i
fits_at r rest i answer there is lies = record { there = there; lies = sym is ∙ lies }

-- and one that was false
pub stops_at : (r : Range) (rest : List ℕ) (i : ℕ) (answer : Bool) → answer ≡ in_range r (get_or rest i 0) → answer ≡ false → StopsAt r rest i
stops_at r rest i answer is stops = λ _. sym is ∙ stops

-- a first byte of two, with no second one
pub two_part_1 : (b : ℕ) (rest : List ℕ) → 0xC2 ≤ b → b ≤ 0xDF → StopsAt continuation rest 0 → front_piece (b ∷ rest) ≡ invalid 1
two_part_1 b rest l h stops = two_row b rest l h ∙ row_2_part_1 continuation b rest stops

-- and with one
pub two_whole : (b : ℕ) (rest : List ℕ) → 0xC2 ≤ b → b ≤ 0xDF → FitsAt continuation rest 0 → front_piece (b ∷ rest) ≡ whole (b ∷ get_or rest 0 0 ∷ [])
two_whole b rest l h first = two_row b rest l h ∙ row_2_whole continuation b rest first

-- a first byte of three, with no second one
pub three_part_1 : (b : ℕ) (rest : List ℕ) → 0xE0 ≤ b → b ≤ 0xEF → StopsAt (second_range b) rest 0 → front_piece (b ∷ rest) ≡ invalid 1
three_part_1 b rest l h stops = three_row b rest l h ∙ row_3_part_1 (second_range b) b rest stops

-- with no third one
pub three_part_2 : (b : ℕ) (rest : List ℕ) → 0xE0 ≤ b → b ≤ 0xEF → FitsAt (second_range b) rest 0 → StopsAt continuation rest 1 → front_piece (b ∷ rest) ≡ invalid 2
three_part_2 b rest l h first stops = three_row b rest l h ∙ row_3_part_2 (second_range b) b rest first stops

-- and with both
pub three_whole : (b : ℕ) (rest : List ℕ) → 0xE0 ≤ b → b ≤ 0xEF → FitsAt (second_range b) rest 0 → FitsAt continuation rest 1 → front_piece (b ∷ rest) ≡ whole (b ∷ get_or rest 0 0 ∷ get_or rest 1 0 ∷ [])
three_whole b rest l h first second = three_row b rest l h ∙ row_3_whole (second_range b) b rest first second

-- a first byte of four, with no second one
pub four_part_1 : (b : ℕ) (rest : List ℕ) → 0xF0 ≤ b → b ≤ 0xF4 → StopsAt (second_range b) rest 0 → front_piece (b ∷ rest) ≡ invalid 1
four_part_1 b rest l h stops = four_row b rest l h ∙ row_4_part_1 (second_range b) b rest stops

-- with no third one
pub four_part_2 : (b : ℕ) (rest : List ℕ) → 0xF0 ≤ b → b ≤ 0xF4 → FitsAt (second_range b) rest 0 → StopsAt continuation rest 1 → front_piece (b ∷ rest) ≡ invalid 2
four_part_2 b rest l h first stops = four_row b rest l h ∙ row_4_part_2 (second_range b) b rest first stops

-- with no fourth one
pub four_part_3 : (b : ℕ) (rest : List ℕ) → 0xF0 ≤ b → b ≤ 0xF4 → FitsAt (second_range b) rest 0 → FitsAt continuation rest 1 → StopsAt continuation rest 2 → front_piece (b ∷ rest) ≡ invalid 3
four_part_3 b rest l h first second stops =
    four_row b rest l h ∙ row_4_part_3 (second_range b) b rest first second stops

-- and with all three
pub four_whole : (b : ℕ) (rest : List ℕ) → 0xF0 ≤ b → b ≤ 0xF4 → FitsAt (second_range b) rest 0 → FitsAt continuation rest 1 → FitsAt continuation rest 2 → front_piece (b ∷ rest) ≡ whole (b ∷ get_or rest 0 0 ∷ get_or rest 1 0 ∷ get_or rest 2 0 ∷ [])
four_whole b rest l h first second third =
    four_row b rest l h ∙ row_4_whole (second_range b) b rest first second third

-- where a third or fourth byte lies
pub continuation_bounds : (x : ℕ) → in_range continuation x ≡ true → (0x80 ≤ x) × (x ≤ 0xBF)
continuation_bounds x e = grind (arith, nat_tests)

-- where a second byte lies, those of surrogates, of numbers past the last character and of a fourth byte too many left out
pub record SecondBounds (b x : ℕ) : Type 0 where
  pub from : 0x80 ≤ x
  pub to : x ≤ 0xBF
  pub no_surrogate : b ≡ 0xED → x ≤ 0x9F
  pub not_past : b ≡ 0xF4 → x ≤ 0x8F
  pub not_short : b ≡ 0xF0 → 0x90 ≤ x

-- a byte in the range of a second one has these bounds
pub second_bounds : (b x : ℕ) → in_range (second_range b) x ≡ true → SecondBounds b x
second_bounds b x e = record { from = grind (arith, nat_tests); to = grind (arith, nat_tests); no_surrogate = λ is. grind (arith, nat_tests); not_past = λ is. grind (arith, nat_tests); not_short = λ is. grind (arith, nat_tests) }

scalar_is : (o : Option ℕ) (v : ℕ) → SomeIff o (IsScalar v) v → IsSome o → o ≡ Some v
scalar_is None v iff some = cc
scalar_is (Some x) v iff some = ap Some iff.1

-- the character that the code made of the bytes is that of the piece
pub decoded_is : (made : Option ℕ) (v : ℕ) (bytes : List ℕ) (p : Piece) → p ≡ whole bytes → v ≡ scalar_value bytes → InScalarRange (scalar_value bytes) → SomeIff made (IsScalar v) v → (InScalarRange v → IsSome made) → made ≡ p.decoded
decoded_is made v bytes p is same range iff succeeds =
    scalar_is made v iff (succeeds (subst InScalarRange (sym same) range)) ∙ ap Some same ∙ sym (ap (λ (q : Piece). q.decoded) is)

-- what a whole sequence of two bytes spells is a character
pub two_scalar : (b x : ℕ) → 0xC2 ≤ b → b ≤ 0xDF → x ≤ 0xBF → InScalarRange (scalar_value (b ∷ x ∷ []))
two_scalar b x l h m = inl (omega arith)

-- one of three
pub three_scalar : (b x y : ℕ) → 0xE0 ≤ b → b ≤ 0xEF → SecondBounds b x → y ≤ 0xBF → InScalarRange (scalar_value (b ∷ x ∷ y ∷ []))
three_scalar b x y l h s m = grind arith

-- one of four
pub four_scalar : (b x y z : ℕ) → 0xF0 ≤ b → b ≤ 0xF4 → SecondBounds b x → y ≤ 0xBF → z ≤ 0xBF → InScalarRange (scalar_value (b ∷ x ∷ y ∷ z ∷ []))
four_scalar b x y z l h s m n = grind arith

-- a slice is its first byte and what follows it
pub front_parts : (bytes : List ℕ) → 1 ≤ length bytes → get_or bytes 0 0 ∷ take (length bytes - 1) (drop 1 bytes) ≡ bytes
front_parts [] some = absurd (omega arith)
front_parts (b ∷ bytes) some = ap (λ rest. b ∷ rest) (take_all (length (b ∷ bytes) - 1) bytes (omega arith))

-- the piece at the end
pub front_end : (bytes : List ℕ) → length bytes < 1 → front_piece bytes ≡ invalid 0
unfolding front_piece
front_end [] none = refl
front_end (b ∷ bytes) none = absurd (omega arith)

-- ## A whole character past ASCII

-- a test that a byte of the range stands at the place, which was true
pub fits_there : (r : Range) (bytes : List ℕ) (b : ℕ) (rest : List ℕ) (i : ℕ) (answer : Bool) → b ∷ rest ≡ bytes → answer ≡ lies_at r bytes (suc i) → answer ≡ true → FitsAt r rest i
fits_there r bytes b rest i answer parts is lies =
    let e : lies_at r (b ∷ rest) (suc i) ≡ true = ap (λ l. lies_at r l (suc i)) parts ∙ sym is ∙ lies in
    record { there = grind (arith, nat_tests); lies = grind (arith, nat_tests) }

-- and one that was false
pub stops_there : (r : Range) (bytes : List ℕ) (b : ℕ) (rest : List ℕ) (i : ℕ) (answer : Bool) → b ∷ rest ≡ bytes → answer ≡ lies_at r bytes (suc i) → answer ≡ false → StopsAt r rest i
stops_there r bytes b rest i answer parts is stops =
    let e : lies_at r (b ∷ rest) (suc i) ≡ false = ap (λ l. lies_at r l (suc i)) parts ∙ sym is ∙ stops in
    λ there. grind (arith, nat_tests)

-- the first piece is such a character of so many bytes
pub record IsPastAscii (bytes : List ℕ) (n : ℕ) : Type 0 where
  pub len : n ≡ (front_piece bytes).len
  pub past_ascii : IsSomeAnd (front_piece bytes).decoded (λ c. 128 ≤ c)
  pub within : n ≤ length bytes

pub past_ascii : (bytes : List ℕ) (b : ℕ) (rest : List ℕ) (v n : ℕ) → b ∷ rest ≡ bytes → 128 ≤ b → front_piece (b ∷ rest) ≡ record { decoded = Some v; len = n } → IsPastAscii bytes n
past_ascii bytes b rest v n parts high is =
    subst (λ l. IsPastAscii l n) parts
    (record {
      len = ap (λ (p : Piece). p.len) (sym is);
      past_ascii = subst (λ (p : Piece). IsSomeAnd p.decoded (λ c. 128 ≤ c)) (sym is) (subst (λ p. 128 ≤ character p) is (character_high b rest high));
      within = (front_len (b ∷ rest) n (ap (λ (p : Piece). p.len) (sym is))).within;
    })

-- it is no such character
abbrev pub IsOther : List ℕ → Type 0
IsOther bytes = IfSome (front_piece bytes).decoded (λ c. c < 128)

other : (bytes : List ℕ) (n : ℕ) → front_piece bytes ≡ invalid n → IsOther bytes
other bytes n is = subst (λ (p : Piece). IfSome p.decoded (λ c. c < 128)) (sym is) tt

-- a row does not fit whole where a byte is absent or lies outside its range
unfit_at : (row : List Range) (rest : List ℕ) (i : ℕ) (r : Range) → slice_get row i ≡ Some r → StopsAt r rest i → fitting row rest < length row
unfit_at [] rest i r is stops = cc
unfit_at (q ∷ row) [] i r is stops = omega arith
unfit_at (q ∷ row) (x ∷ rest) zero r is stops =
    let same : q ≡ r = cc in
    let e : in_range q x ≡ false = ap (λ p. in_range p x) same ∙ stops (omega arith) in rw e (omega arith)
unfit_at (q ∷ row) (x ∷ rest) (suc i) r is stops =
    ⊎_elim (λ e. rw e (omega (arith, unfit_at row rest i r is (λ there. stops (omega arith))))) (λ e. rw e (omega arith)) (cases_Bool (in_range q x))

pub broken : (bytes : List ℕ) (b : ℕ) (rest : List ℕ) (row : List Range) (i : ℕ) (r : Range) → b ∷ rest ≡ bytes → front_piece (b ∷ rest) ≡ row_piece row b rest → slice_get row i ≡ Some r → StopsAt r rest i → IsOther bytes
unfolding row_piece chosen
broken bytes b rest row i r parts is at stops =
    let less = unfit_at row rest i r at stops in
    let part : (fitting row rest == length row) ≡ false = grind (arith, nat_tests) in
    subst IsOther parts (other (b ∷ rest) (suc (fitting row rest)) (is ∙ ap (chosen row b rest) part))

-- where the first byte begins no row of two or more
pub lone : (bytes : List ℕ) (b : ℕ) (rest : List ℕ) → b ∷ rest ≡ bytes → (b < 0xC2) ⊎ (0xF4 < b) → IsOther bytes
lone bytes b rest parts (inr high) = subst IsOther parts (other (b ∷ rest) 1 (lone_piece b rest (inr high)))
lone bytes b rest parts (inl low) =
    subst IsOther parts
    (⊎_elim
    (λ (ascii : b < 0x80). subst (λ (p : Piece). IfSome p.decoded (λ c. c < 128)) (sym (ascii_piece b rest (omega arith))) ascii)
    (λ (past : 0x80 ≤ b). other (b ∷ rest) 1 (lone_piece b rest (inl (omega arith, low))))
    (cases_lt b 0x80))

-- and where it stands alone
pub alone : (bytes : List ℕ) → length bytes < 2 → IsOther bytes
alone [] short = rw (front_end [] (omega arith)) tt
alone (b ∷ x ∷ rest) short = absurd (omega arith)
alone (b ∷ []) short = by (cases_lt b 0xC2) (cases_lt b 0xE0) (cases_lt b 0xF0) (cases_lt 0xF4 b)
  where
    none : (r : Range) → StopsAt r [] 0
    none r there = absurd (omega (arith, there))

    by : (b < 0xC2) ⊎ (0xC2 ≤ b) → (b < 0xE0) ⊎ (0xE0 ≤ b) → (b < 0xF0) ⊎ (0xF0 ≤ b) → (0xF4 < b) ⊎ (b ≤ 0xF4) → IsOther (b ∷ [])
    by (inl low) two three four = lone _ b [] refl (inl low)
    by (inr from) two three (inl high) = lone _ b [] refl (inr high)
    by (inr from) (inl to) three four = broken _ b [] _ 0 _ refl (two_row b [] from (omega (arith, to))) refl (none continuation)
    by (inr from) (inr le) (inl to) four = broken _ b [] _ 0 _ refl (three_row b [] le (omega (arith, to))) refl (none (second_range b))
    by (inr from) (inr le) (inr most) (inr to) = broken _ b [] _ 0 _ refl (four_row b [] most to) refl (none (second_range b))
