-- The kind of the byte after a place and of the byte before the next place is the kind of the character between them.
use Rattle.bites_table.proofs.Library.{common_steps, nat_lt, slice_get, nat_tests, none-some, is_word_byte, before, after, piece_within, next_character, cases_lt, ◌≡◌, ℕ, zero, suc, ◌+◌, ◌<◌, ◌≤◌, false, cond, List, [], ◌∷◌, length, drop, Some, None, refl, sym, ap, ◌∙◌, ⊎_elim, arith, length-drop, Piece, character, ascii, at_drop, bytes_high, character_high, some_at, piece, front_piece}
use Rattle.bites_table.specs.Kinds.{other, kind_of_byte, kind_of}

-- past ASCII there is one kind
no_word : (b : ℕ) → 128 ≤ b → is_word_byte b ≡ false
no_word b le = grind (arith, common_steps, nat_tests)

pub kind_high : (b : ℕ) → 128 ≤ b → kind_of_byte b ≡ other
kind_high b le = grind (arith, common_steps, nat_tests, no_word)

-- the last byte of a piece, and its character
kinds_at : (b : ℕ) (rest : List ℕ) → (k x : ℕ) → suc k ≡ (front_piece (b ∷ rest)).len → slice_get (b ∷ rest) k ≡ Some x → kind_of_byte x ≡ kind_of_byte (character (front_piece (b ∷ rest)))
kinds_at b rest k x is e =
    ⊎_elim
    (λ (lt : b < 128).
    let a = ascii b rest lt in
    let z : k ≡ 0 = let l = ap (λ (p : Piece). p.len) a in omega arith in
    let same : b ≡ x = let s : Some b ≡ Some x = ap (slice_get (b ∷ rest)) (sym z) ∙ e in cc in
    ap kind_of_byte (sym same) ∙ ap (λ (p : Piece). kind_of_byte (character p)) (sym a))
    (λ (le : 128 ≤ b). kind_high x (bytes_high b rest le k x (omega arith) e) ∙ sym (kind_high (character (front_piece (b ∷ rest))) (character_high b rest le)))
    (cases_lt b 128)

first_kind : (b : ℕ) (rest : List ℕ) → kind_of_byte b ≡ kind_of_byte (character (front_piece (b ∷ rest)))
first_kind b rest = grind (arith, common_steps, ascii, kind_high, character_high)

no_character : (bytes : List ℕ) → kind_of (slice_get bytes 0) ≡ kind_of (cond (nat_lt 0 (front_piece bytes).len) (Some (character (front_piece bytes))) None)
unfolding front_piece
no_character bytes = grind (arith, first_kind, nat_tests)

-- the byte after a place has the kind of the character there
pub kind_after : (hay : List ℕ) (i : ℕ) → kind_of (after hay i) ≡ kind_of (next_character hay i)
unfolding piece
kind_after hay i = ap kind_of (ap (slice_get hay) (same i) ∙ sym (at_drop hay i 0)) ∙ no_character (drop i hay)
  where
    same : (i : ℕ) → i ≡ i + 0
    same i = omega arith

last_kind : (bytes : List ℕ) (k x : ℕ) → suc k ≡ (front_piece bytes).len → slice_get bytes k ≡ Some x →
    kind_of (Some x) ≡ kind_of (cond (nat_lt 0 (front_piece bytes).len) (Some (character (front_piece bytes))) None)
last_kind [] k x is e = absurd (none-some x e)
last_kind (b ∷ rest) k x is e = grind (arith, common_steps, none-some, kinds_at, no_character, first_kind)

-- the byte before the next place has it too
pub kind_before : (hay : List ℕ) (i : ℕ) → i ≤ length hay → 0 < (piece hay i).len → kind_of (before hay (i + (piece hay i).len)) ≡ kind_of (next_character hay i)
unfolding piece
kind_before hay i le some = by_len (piece hay i).len refl some (piece_within hay i le)
  where
    by_len : (n : ℕ) → (piece hay i).len ≡ n → 0 < n → i + (piece hay i).len ≤ length hay → kind_of (before hay (i + n)) ≡ kind_of (next_character hay i)
    by_len zero is lt within = absurd (omega arith)
    by_len (suc n) is lt within =
        let x = some_at (drop i hay) n (let d = length-drop i hay in omega arith) in
        let next : i + suc n ≡ suc (i + n) = omega arith in
        ap (λ m. kind_of (before hay m)) next ∙ ap kind_of (sym (at_drop hay i n) ∙ x.1) ∙ last_kind (drop i hay) n x.0 (sym is) x.1
