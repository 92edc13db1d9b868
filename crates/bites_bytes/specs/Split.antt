-- The pieces that iterators over them have left.
use Rattle.std.specs.Prelude.{◌≡◌, ℕ, zero, suc, Bool, cond, List, [], ◌∷◌, map, take, length, Option, Some, None, unwrap_or}
use Rattle.std.specs.Borrow.{Bor}
use Rattle.bites_spec.specs.Match.{Span}
use Rattle.bites_spec.specs.Pieces.{gaps_from, text_at}
use Rattle.bites_bytes.specs.Matches.{spans_left}
use Rattle.bites_bytes.specs.declared.bytes.split.Split.{Split}
use Rattle.bites_bytes.specs.declared.bytes.split.SplitN.{SplitN}

-- the pieces of a haystack from a place on, between these spans, before the first and after the last; none if all were returned
abbrev pub pieces_of : List ℕ → ℕ → Bool → List Span → List (List ℕ)
pieces_of hay begin done ss = cond done [] (map (text_at hay) (gaps_from (length hay) begin ss))

-- at most n pieces
abbrev pub at_most_of : ℕ → List ℕ → ℕ → Bool → List Span → List (List ℕ)
at_most_of zero hay begin done ss = []
at_most_of (suc n) hay begin done ss = pieces_of hay begin done (take n ss)

-- the bytes of a piece
abbrev pub bytes_at : Bor (List ℕ) → List ℕ
bytes_at = λ t. t.now

module _ {S : Type 0} (left : S → List (List ℕ)) (at_most : ℕ → S → List (List ℕ)) where
  -- one step: for every limit n the piece is the first, and one less may come; or none came and none comes
  abbrev pub StepsOnBy : S → Option (Bor (List ℕ)) → S → Type 0
  StepsOnBy s None t = (left s ≡ []) × (left t ≡ []) × ((n : ℕ) → (at_most n s ≡ []) × (at_most n t ≡ []))
  StepsOnBy s (Some piece) t = (left s ≡ piece.now ∷ left t) × ((n : ℕ) → at_most (suc (suc n)) s ≡ piece.now ∷ at_most (suc n) t)

-- the pieces between these spans
abbrev pub pieces_by : Split → List Span → List (List ℕ)
pieces_by s = pieces_of s.matches.cursor.haystack.now (unwrap_or s.matches.cursor.last 0) s.done

-- the pieces that are still to come
abbrev pub pieces_left : Split → List (List ℕ)
pieces_left s = pieces_by s (spans_left s.matches.cursor)

abbrev pub at_most_left : ℕ → Split → List (List ℕ)
at_most_left n s = at_most_of n s.matches.cursor.haystack.now (unwrap_or s.matches.cursor.last 0) s.done (spans_left s.matches.cursor)

-- the pieces that are still to come, at most as many as may come
abbrev pub limited_left : SplitN → List (List ℕ)
limited_left s = at_most_left s.left s.split

abbrev pub StepsOn : Split → Option (Bor (List ℕ)) → Split → Type 0
StepsOn = StepsOnBy pieces_left at_most_left
