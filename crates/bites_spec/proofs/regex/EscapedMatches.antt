-- An escaped text matches exactly where the text stands, and a search finds its first occurrence.
use Rattle.std.proofs.lemmas.Grind.{common_steps}
use Rattle.std.proofs.Common.{◌≡◌, ℕ, zero, suc, ◌+◌, ◌<◌, ◌≤◌, true, false, ◌==◌, List, [], ◌∷◌, ◌++◌, length, get_or, drop, map, Option, Some, None, option_map, refl, sym, ap, ◌∙◌, subst, ⊎_elim, arith, append_assoc, length-append, ltb, ltb-true, ltb-false, eqb-true, eq-eqb, IsUtf8, IsCharBoundary}
use Rattle.std.specs.Prelude.{◌↔◌, chars, encode_utf8_all}
use Rattle.std.specs.Char.{len_utf8, IsScalar, encode_utf8}
use Rattle.std.proofs.Math.ListN.{get_or-append}
use Rattle.std.proofs.Math.Utf8.{scalars}
use Rattle.std.proofs.lemmas.Str.{encodes-chars, length-encode, len_utf8_bounds, IsCharBoundary-start}
use Rattle.std.proofs.lemmas.Bool.{cases_Bool}
use Rattle.bites_spec.specs.Walks.{Among}
use Rattle.bites_spec.specs.Utf8.{Piece, character, places}
use Rattle.bites_spec.specs.Tree.{Tree, char, sequence_of, trees_of}
use Rattle.bites_spec.specs.Match.{Matches, MatchesAll, Takes, span}
use Rattle.bites_spec.specs.Found.{Answer, FoundSome}
use Rattle.bites_spec.specs.Escaped.{text_tree}
use Rattle.bites_spec.specs.Occurrence.{StandsAt, IsLeftmost}
use Rattle.bites_spec.proofs.parses.EventLemmas.{Parse-Matches}
use Rattle.bites_spec.proofs.utf8.PieceLemmas.{piece_none}
use Rattle.bites_spec.proofs.parses.TextPlaces.{CharacterAt, character_at, border_behind, places_are_borders, scalars_step, behind_character, piece_of_character}
use Rattle.bites_spec.proofs.regex.EscapedReading.{chars_are_scalars}

-- ## One character

record Read (hay : List ℕ) (i c j : ℕ) : Type 0 where
  ends : j ≡ i + len_utf8 c
  border : IsCharBoundary hay j
  bytes : drop i hay ≡ encode_utf8 c ++ drop j hay

takes_reads : (hay : List ℕ) (c i j : ℕ) → IsUtf8 hay → IsCharBoundary hay i → Takes hay (λ d. d == c) i j → Read hay i c j
takes_reads hay c i j utf8 border (some, test, is) =
    ⊎_elim (λ (e : ltb i (length hay) ≡ true). at_character (character_at hay i utf8 border (ltb-true i (length hay) e)))
    (λ (e : ltb i (length hay) ≡ false). let none = piece_none hay i (ltb-false i (length hay) e) in absurd (omega (arith, some, none)))
    (cases_Bool (ltb i (length hay)))
  where
    at_character : (d : ℕ) × CharacterAt hay i d → Read hay i c j
    at_character (d, at) =
        let same : d ≡ c = eqb-true d c (sym (ap (λ (p : Piece). character p == c) at.piece_is) ∙ test) in
        let ends : j ≡ i + len_utf8 c = is ∙ ap (λ (p : Piece). i + p.len) at.piece_is ∙ ap (λ (k : ℕ). i + len_utf8 k) same in
        record {
          ends = ends;
          border = subst (IsCharBoundary hay) (sym is) (border_behind hay i utf8 border);
          bytes = at.bytes ∙ ap (λ (k : ℕ). encode_utf8 k ++ at.rest) same
              ∙ ap (λ (l : List ℕ). encode_utf8 c ++ l)
              (sym (behind_character hay i d at.rest at.bytes) ∙ ap (λ (k : ℕ). drop (i + len_utf8 k) hay) same ∙ sym (ap (λ (k : ℕ). drop k hay) ends));
        }

bytes_take : (hay : List ℕ) (c i : ℕ) (rest : List ℕ) → IsScalar c → drop i hay ≡ encode_utf8 c ++ rest → Takes hay (λ d. d == c) i (i + len_utf8 c)
bytes_take hay c i rest scalar e =
    let is = piece_of_character hay i c rest scalar e in (
      subst (λ (p : Piece). 0 < p.len) (sym is) (omega (arith, (len_utf8_bounds c).0)),
      ap (λ (p : Piece). character p == c) is ∙ eq-eqb c c refl,
      sym (ap (λ (p : Piece). i + p.len) is),
    )

-- ## All characters

stands_more : (hay : List ℕ) (c i l j : ℕ) (text : List ℕ) → Read hay i c l → StandsAt hay text l × (j ≡ l + length text) → i ≤ length hay →
    StandsAt hay (encode_utf8 c ++ text) i × (j ≡ i + length (encode_utf8 c ++ text))
stands_more hay c i l j text read ((le, (rest, e)), ends) within = (
  (within, (rest, read.bytes ∙ ap (λ (k : List ℕ). encode_utf8 c ++ k) e ∙ sym (append_assoc (encode_utf8 c) text rest))),
  omega (arith, ends, read.ends, length-encode c, length-append (encode_utf8 c) text),
)

all_stand : (hay : List ℕ) (cs : List ℕ) (i j : ℕ) → IsUtf8 hay → IsCharBoundary hay i → MatchesAll hay (trees_of (map char cs)) i j →
    StandsAt hay (encode_utf8_all cs) i × (j ≡ i + length (encode_utf8_all cs))
all_stand hay [] i j utf8 border m = ((border.0, (drop i hay, refl)), omega (arith, m))
all_stand hay (c ∷ cs) i j utf8 border (l, one, more) =
    let read = takes_reads hay c i l utf8 border one in
    stands_more hay c i l j (encode_utf8_all cs) read (all_stand hay cs l j utf8 read.border more) border.0

stand_all : (hay : List ℕ) (cs : List ℕ) (i : ℕ) (rest : List ℕ) → scalars cs ≡ true → drop i hay ≡ encode_utf8_all cs ++ rest →
    MatchesAll hay (trees_of (map char cs)) i (i + length (encode_utf8_all cs))
stand_all hay [] i rest scalar e = omega arith
stand_all hay (c ∷ cs) i rest scalar e =
    let both = scalars_step c cs scalar in
    let split = e ∙ append_assoc (encode_utf8 c) (encode_utf8_all cs) rest in (
      i + len_utf8 c,
      bytes_take hay c i (encode_utf8_all cs ++ rest) both.0 split,
      subst (λ (k : ℕ). MatchesAll hay (trees_of (map char cs)) (i + len_utf8 c) k) (omega (arith, length-encode c, length-append (encode_utf8 c) (encode_utf8_all cs)))
          (stand_all hay cs (i + len_utf8 c) rest both.1 (behind_character hay i c (encode_utf8_all cs ++ rest) split)),
    )

-- nodes in a row match if their sequence does
row_matches : (hay : List ℕ) (ts : List Tree) (i j : ℕ) → Matches hay (sequence_of ts) i j → MatchesAll hay (trees_of ts) i j
row_matches hay [] i j m = m
row_matches hay (t ∷ []) i j m = (j, m, refl)
row_matches hay (t ∷ u ∷ ts) i j m = m

sequence_matches : (hay : List ℕ) (ts : List Tree) (i j : ℕ) → MatchesAll hay (trees_of ts) i j → Matches hay (sequence_of ts) i j
sequence_matches hay [] i j m = m
sequence_matches hay (t ∷ []) i j (l, m, is) = subst (Matches hay t i) (sym is) m
sequence_matches hay (t ∷ u ∷ ts) i j m = m

pub escaped_matches : (hay text : List ℕ) (i j : ℕ) → IsUtf8 hay → IsUtf8 text → IsCharBoundary hay i →
    Matches hay (text_tree (chars text)) i j ↔ (StandsAt hay text i × (j ≡ i + length text))
unfolding text_tree
escaped_matches hay text i j utf8 is_text border = (
  λ m. subst (λ (l : List ℕ). StandsAt hay l i × (j ≡ i + length l)) (encodes-chars text is_text)
      (all_stand hay (chars text) i j utf8 border (row_matches hay (map char (chars text)) i j m)),
  λ ((le, (rest, e)), ends). subst (Matches hay (sequence_of (map char (chars text))) i) (sym (ends ∙ ap (λ (l : List ℕ). i + length l) (sym (encodes-chars text is_text))))
      (sequence_matches hay (map char (chars text)) i (i + length (encode_utf8_all (chars text)))
      (stand_all hay (chars text) i rest (chars_are_scalars text is_text) (e ∙ ap (λ (l : List ℕ). l ++ rest) (sym (encodes-chars text is_text))))),
)

-- ## The first occurrence

get_or_drop : (hay : List ℕ) (i : ℕ) → get_or (drop i hay) 0 0 ≡ get_or hay i 0
get_or_drop hay zero = refl
get_or_drop [] (suc i) = refl
get_or_drop (b ∷ hay) (suc i) = get_or_drop hay i

-- where a text with at least one character stands is a border
stands_border : (hay text : List ℕ) (i : ℕ) → IsUtf8 text → 0 < length text → StandsAt hay text i → IsCharBoundary hay i
stands_border hay text i is_text some (le, (rest, e)) = grind (arith, common_steps, get_or_drop, get_or-append, IsCharBoundary-start)

-- some place at or before the text's, from the start on, has a match
matches_by : (hay text : List ℕ) (s i : ℕ) → IsUtf8 hay → IsUtf8 text → IsCharBoundary hay s → s ≤ i → StandsAt hay text i →
    (k : ℕ) × (k ≤ i) × Among (places hay s) k × ((j : ℕ) × Matches hay (text_tree (chars text)) k j)
matches_by hay [] s i utf8 is_text border le stands = (
  s,
  le,
  (places_are_borders hay s utf8 border s).1 (omega arith, border),
  (s + 0, (escaped_matches hay [] s (s + 0) utf8 is_text border).1 ((border.0, (drop s hay, refl)), refl)),
)
matches_by hay (b ∷ text) s i utf8 is_text border le stands =
    let here = stands_border hay (b ∷ text) i is_text (omega arith) stands in (
      i,
      omega arith,
      (places_are_borders hay s utf8 border i).1 (le, here),
      (i + length (b ∷ text), (escaped_matches hay (b ∷ text) i (i + length (b ∷ text)) utf8 is_text here).1 (stands, refl)),
    )

pub escaped_finds : (hay text : List ℕ) (s : ℕ) → IsUtf8 hay → IsUtf8 text → IsCharBoundary hay s →
    (o : Option Answer) → FoundSome (text_tree (chars text)) hay (places hay s) o → IsLeftmost hay text s (option_map (λ a. span a.start a.end) o)
escaped_finds hay text s utf8 is_text border None none =
    λ i le stands. let m = matches_by hay text s i utf8 is_text border le stands in none m.0 m.2 m.3.0 m.3.1
escaped_finds hay text s utf8 is_text border (Some a) found =
    let place = (places_are_borders hay s utf8 border a.start).0 found.first.place in
    let stands = (escaped_matches hay text a.start a.end utf8 is_text place.1).0 (Parse-Matches hay (text_tree (chars text)) a.start a.end found.marks found.parse) in (
      place.0,
      stands.0,
      stands.1,
      λ i le lt other.
          let m = matches_by hay text s i utf8 is_text border le other in
          found.first.none_before m.0 m.2 (omega (arith, m.1, lt)) m.3.0 m.3.1,
    )
