-- In UTF-8, the places from a border on are the borders from it on.
use Rattle.std.proofs.Common.{◌≡◌, ℕ, zero, suc, ◌+◌, ◌-◌, ◌<◌, ◌≤◌, Bool, true, false, cond, List, [], ◌∷◌, ◌++◌, length, drop, refl, sym, ap, ◌∙◌, subst, inl, inr, ⊎_elim, arith, length-drop, length-append, append_assoc, take, ltb, ltb-true, ltb-false, le-leb, IsUtf8, IsCharBoundary}
use Rattle.std.specs.Prelude.{◌↔◌, nat_le, encode_utf8_all}
use Rattle.std.specs.Char.{len_utf8, IsScalar, encode_utf8}
use Rattle.std.proofs.Math.Utf8.{scalar, scalars, encodes}
use Rattle.std.proofs.lemmas.Str.{IsCharBoundary-past_char, IsUtf8-drop, IsUtf8-between, len_utf8_bounds, length-encode, length-le-encodes}
use Rattle.std.proofs.lemmas.List.{length-take-le, take-append-drop, drop-drop}
use Rattle.std.proofs.Math.Seq.{drop-append_seam}
use Rattle.std.proofs.lemmas.Bool.{and_parts, cases_Bool}
use Rattle.bites_spec.specs.Walks.{Among}
use Rattle.bites_spec.specs.Utf8.{Piece, piece, front_piece, places, places_within, step_len}
use Rattle.bites_spec.proofs.utf8.PieceLemmas.{piece_none, piece_some, Among-places_within, step_some}
use Rattle.bites_spec.proofs.utf8.ScalarPieces.{whole, scalar_piece}

-- the character at a border
pub record CharacterAt (hay : List ℕ) (i c : ℕ) : Type 0 where
  pub scalar : IsScalar c
  pub rest : List ℕ
  pub bytes : drop i hay ≡ encode_utf8 c ++ rest
  pub piece_is : piece hay i ≡ whole c (len_utf8 c)

pub character_at : (hay : List ℕ) (i : ℕ) → IsUtf8 hay → IsCharBoundary hay i → i < length hay → (c : ℕ) × CharacterAt hay i c
unfolding piece
character_at hay i utf8 border lt = first_of (IsUtf8-drop hay i utf8 border)
  where
    first_of : (cs : List ℕ) × ((scalars cs ≡ true) × (encode_utf8_all cs ≡ drop i hay)) → (c : ℕ) × CharacterAt hay i c
    first_of ([], h) = let e = ap length h.1 in let n = length-drop i hay in absurd (omega (arith, e, n))
    first_of (c ∷ cs, h) =
        let s = (and_parts (scalar c) (scalars cs) h.0).0 in
        (c, record { scalar = s; rest = encodes cs; bytes = sym h.1; piece_is = ap front_piece (sym h.1) ∙ scalar_piece c (encodes cs) s })

-- the piece at a border ends at a border
pub border_behind : (hay : List ℕ) (i : ℕ) → IsUtf8 hay → IsCharBoundary hay i → IsCharBoundary hay (i + (piece hay i).len)
border_behind hay i utf8 border =
    ⊎_elim (λ (e : ltb i (length hay) ≡ true).
    let c = character_at hay i utf8 border (ltb-true i (length hay) e) in
    subst (λ (n : ℕ). IsCharBoundary hay (i + n)) (sym (ap (λ (p : Piece). p.len) c.1.piece_is))
    (IsCharBoundary-past_char hay c.1.rest i c.0 border.0 (IsUtf8-drop hay i utf8 border) c.1.bytes))
    (λ (e : ltb i (length hay) ≡ false).
    let none = piece_none hay i (ltb-false i (length hay) e) in
    subst (λ (n : ℕ). IsCharBoundary hay n) (omega (arith, none)) border)
    (cases_Bool (ltb i (length hay)))

-- before the end, a scan steps over the piece
step_is : (hay : List ℕ) (i : ℕ) → i < length hay → step_len hay i ≡ (piece hay i).len
step_is hay i lt = omega (arith, piece_some hay i lt)

among_borders : (n : ℕ) (hay : List ℕ) (s i : ℕ) → IsUtf8 hay → IsCharBoundary hay s → Among (places_within n hay s) i → IsCharBoundary hay i
among_borders zero hay s i utf8 border h = absurd h
among_borders (suc n) hay s i utf8 border h =
    by_end (nat_le s (length hay)) refl h (λ b more. among_borders n hay (s + step_len hay s) i utf8 b more)
  where
    go_on : Among (places_within n hay (s + step_len hay s)) i → (IsCharBoundary hay (s + step_len hay s) → Among (places_within n hay (s + step_len hay s)) i → IsCharBoundary hay i) → IsCharBoundary hay i
    go_on more f =
        ⊎_elim (λ (e : ltb s (length hay) ≡ true).
        f (subst (λ (k : ℕ). IsCharBoundary hay (s + k)) (sym (step_is hay s (ltb-true s (length hay) e))) (border_behind hay s utf8 border)) more)
        (λ (e : ltb s (length hay) ≡ false).
        let a = Among-places_within n hay (s + step_len hay s) i more in
        let le = ltb-false s (length hay) e in
        let step = step_some hay s in
        absurd (omega (arith, a.0, a.1, le, step)))
        (cases_Bool (ltb s (length hay)))

    by_end : (d : Bool) → nat_le s (length hay) ≡ d → Among (cond d (s ∷ places_within n hay (s + step_len hay s)) []) i →
        (IsCharBoundary hay (s + step_len hay s) → Among (places_within n hay (s + step_len hay s)) i → IsCharBoundary hay i) → IsCharBoundary hay i
    by_end true e (inl here) f = subst (IsCharBoundary hay) here border
    by_end true e (inr more) f = go_on more f
    by_end false e none f = absurd none

-- ## Each border is a place

encode_some : (c : ℕ) → 1 ≤ length (encode_utf8 c)
encode_some c = let n = length-encode c in let b = len_utf8_bounds c in omega (arith, n, b.0)

pub scalars_step : (c : ℕ) (cs : List ℕ) → scalars (c ∷ cs) ≡ true → IsScalar c × (scalars cs ≡ true)
scalars_step c cs e = and_parts (scalar c) (scalars cs) e

-- dropping a character's bytes leaves what follows them
pub behind_character : (hay : List ℕ) (s c : ℕ) (rest : List ℕ) → drop s hay ≡ encode_utf8 c ++ rest → drop (s + len_utf8 c) hay ≡ rest
behind_character hay s c rest e =
    sym (drop-drop (len_utf8 c) s hay) ∙ ap (drop (len_utf8 c)) e ∙ ap (λ (k : ℕ). drop k (encode_utf8 c ++ rest)) (sym (length-encode c)) ∙ drop-append_seam (encode_utf8 c) rest

pub piece_of_character : (hay : List ℕ) (s c : ℕ) (rest : List ℕ) → IsScalar c → drop s hay ≡ encode_utf8 c ++ rest → piece hay s ≡ whole c (len_utf8 c)
unfolding piece
piece_of_character hay s c rest scalar e = ap front_piece e ∙ scalar_piece c rest scalar

within_hay : (hay : List ℕ) (s : ℕ) (front rest : List ℕ) → drop s hay ≡ front ++ rest → 0 < length front → s + length front ≤ length hay
within_hay hay s front rest e some =
    let n = length-drop s hay in let m = length-append front rest in let k = ap length e in omega (arith, n, m, k)

place_behind : (cs : List ℕ) (n : ℕ) (hay : List ℕ) (s : ℕ) (rest : List ℕ) → scalars cs ≡ true → drop s hay ≡ encode_utf8_all cs ++ rest → s ≤ length hay → length cs < n →
    Among (places_within n hay s) (s + length (encode_utf8_all cs))
place_behind cs zero hay s rest scalar e le lt = absurd (omega arith)
place_behind [] (suc n) hay s rest scalar e le lt =
    subst (λ (d : Bool). Among (cond d (s ∷ places_within n hay (s + step_len hay s)) []) (s + 0)) (sym (le-leb s (length hay) le)) (inl (omega arith))
place_behind (c ∷ cs) (suc n) hay s rest scalar e le lt =
    subst (λ (d : Bool). Among (cond d (s ∷ places_within n hay (s + step_len hay s)) []) (s + length (encode_utf8 c ++ encode_utf8_all cs))) (sym (le-leb s (length hay) le))
    (inr (subst (λ (k : ℕ). Among (places_within n hay (s + step_len hay s)) k) (omega (arith, step, joined, len))
    (place_behind cs n hay (s + step_len hay s) rest both.1
    (ap (λ (k : ℕ). drop (s + k) hay) step ∙ behind_character hay s c (encode_utf8_all cs ++ rest) split)
    (omega (arith, step, fits, len)) (omega (arith, lt)))))
  where
    both : IsScalar c × (scalars cs ≡ true)
    both = scalars_step c cs scalar

    split : drop s hay ≡ encode_utf8 c ++ (encode_utf8_all cs ++ rest)
    split = e ∙ append_assoc (encode_utf8 c) (encode_utf8_all cs) rest

    len : length (encode_utf8 c) ≡ len_utf8 c
    len = length-encode c

    fits : s + length (encode_utf8 c) ≤ length hay
    fits = within_hay hay s (encode_utf8 c) (encode_utf8_all cs ++ rest) split (encode_some c)

    step : step_len hay s ≡ len_utf8 c
    step = step_is hay s (omega (arith, fits, encode_some c)) ∙ ap (λ (p : Piece). p.len) (piece_of_character hay s c (encode_utf8_all cs ++ rest) both.0 split)

    joined : length (encode_utf8 c ++ encode_utf8_all cs) ≡ length (encode_utf8 c) + length (encode_utf8_all cs)
    joined = length-append (encode_utf8 c) (encode_utf8_all cs)

border_among : (hay : List ℕ) (s i : ℕ) → IsUtf8 hay → IsCharBoundary hay s → s ≤ i → IsCharBoundary hay i → Among (places_within (suc (length hay)) hay s) i
border_among hay s i utf8 start le border = of_characters (IsUtf8-between hay s i utf8 le start border)
  where
    front_len : length (take (i - s) (drop s hay)) ≡ i - s
    front_len = length-take-le (i - s) (drop s hay) (omega (arith, length-drop s hay, border.0))

    of_characters : (cs : List ℕ) × ((scalars cs ≡ true) × (encode_utf8_all cs ≡ take (i - s) (drop s hay))) → Among (places_within (suc (length hay)) hay s) i
    of_characters (cs, h) =
        let len = ap length h.1 ∙ front_len in
        subst (λ (k : ℕ). Among (places_within (suc (length hay)) hay s) k) (omega (arith, len, le))
        (place_behind cs (suc (length hay)) hay s (drop (i - s) (drop s hay)) h.0
        (sym (take-append-drop (i - s) (drop s hay)) ∙ ap (λ (l : List ℕ). l ++ drop (i - s) (drop s hay)) (sym h.1))
        start.0 (omega (arith, len, length-le-encodes cs, border.0)))

pub places_are_borders : (hay : List ℕ) (s : ℕ) → IsUtf8 hay → IsCharBoundary hay s → (i : ℕ) → Among (places hay s) i ↔ ((s ≤ i) × IsCharBoundary hay i)
unfolding places
places_are_borders hay s utf8 start i = (
  λ a. ((Among-places_within (suc (length hay)) hay s i a).0, among_borders (suc (length hay)) hay s i utf8 start a),
  λ (le, border). border_among hay s i utf8 start le border,
)
