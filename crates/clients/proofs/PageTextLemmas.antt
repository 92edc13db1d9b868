-- What is written of a text, a character or a piece at a time.
use Rattle.std.proofs.Common.{◌≡◌, ℕ, ◌+◌, ◌-◌, ◌/◌, ◌%◌, ◌<◌, true, nat_lt, List, [], ◌∷◌, ◌++◌, map, flat_map, length, get_or, drop, refl, sym, ap, ◌∙◌, inl, inr, append_assoc, arith}
use Rattle.std.specs.List.{list_all}
use Rattle.std.proofs.lemmas.Bool.{cases_Bool}
use Rattle.std.proofs.lemmas.Grind.{common_steps}
use Rattle.std.proofs.lemmas.List.Folds.{list_all-append}
use Rattle.std.proofs.lemmas.List.{at_drop_more}
use Rattle.clients.specs.Json.{digit_of, unit, is_plain, is_harmless, written_char}
use Rattle.clients.specs.Haystack.{character_of}
use Rattle.clients.specs.declared.explain.haystack.Piece.{Piece}

pub map_same : (cs : List ℕ) → map (λ c. c) cs ≡ cs
map_same [] = refl
map_same (c ∷ cs) = ap (λ l. c ∷ l) (map_same cs)

-- what is written of pieces
abbrev pub written_pieces : List Piece → List ℕ
written_pieces = flat_map (λ p. written_char (character_of p))

-- a piece, and those after it
pub piece_more : (pieces : List Piece) (i : ℕ) (d : Piece) (written : List ℕ) → i < length pieces → written_pieces pieces ≡ written ++ written_pieces (drop i pieces) →
    written_pieces pieces ≡ (written ++ written_char (character_of (get_or pieces i d))) ++ written_pieces (drop (i + 1) pieces)
piece_more pieces i d written lt e =
    e ∙ ap (λ r. written ++ r) (at_drop_more written_pieces pieces i d lt)
    ∙ sym (append_assoc written (written_char (character_of (get_or pieces i d))) (written_pieces (drop (i + 1) pieces)))

digit_harmless : (d : ℕ) → d < 16 → is_harmless (digit_of d) ≡ true
digit_harmless d lt = grind (arith, common_steps, lt)

unit_harmless : (n : ℕ) → list_all is_harmless (unit n) ≡ true
unit_harmless n =
    let a = digit_harmless ((n / 4096) % 16) (omega arith) in let b = digit_harmless ((n / 256) % 16) (omega arith) in
    let c = digit_harmless ((n / 16) % 16) (omega arith) in let d = digit_harmless (n % 16) (omega arith) in
    rw (a, b, c, d) refl

pub stays : (c : ℕ) → list_all is_harmless (written_char c) ≡ true
stays c = elim (cases_Bool (is_plain c)) [
  | inl is ↦ rw is (rw is refl)
  | inr is ↦ rw is (elim (cases_Bool (nat_lt c 65536)) [
    | inl small ↦ rw small (unit_harmless c)
    | inr large ↦ rw large (list_all-append is_harmless (unit (55296 + (c - 65536) / 1024)) (unit (56320 + c % 1024))
        ∙ rw (unit_harmless (55296 + (c - 65536) / 1024), unit_harmless (56320 + c % 1024)) refl)
  ])
]
