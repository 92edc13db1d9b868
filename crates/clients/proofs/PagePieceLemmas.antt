-- Pieces of a haystack, one more at a time.
use Rattle.std.proofs.Common.{◌≡◌, ℕ, ◌+◌, ◌-◌, List, [], ◌∷◌, ◌++◌, length, take, drop, refl, sym, subst, arith}
use Rattle.std.proofs.lemmas.List.{length-drop, take_all}
use Rattle.bites_spec.specs.Utf8.{piece, front_piece}
use Rattle.clients.specs.Haystack.{ArePieces}
use Rattle.clients.specs.declared.explain.haystack.Piece.{Piece}

-- the piece at the end of those so far
one_more : (hay : List ℕ) (i : ℕ) (ps : List Piece) (end : ℕ) (p : Piece) → ArePieces hay i ps end → p.start ≡ end →
    p.decoded ≡ (piece hay end).decoded → p.bytes.now ≡ take (piece hay end).len (drop end hay) →
    ArePieces hay i (ps ++ p ∷ []) (end + (piece hay end).len)
one_more hay i [] end p is start decoded bytes = rw is (start, decoded, bytes, refl)
one_more hay i (q ∷ ps) end p (a, b, c, rest) start decoded bytes =
    (a, b, c, one_more hay (i + (piece hay i).len) ps end p rest start decoded bytes)

-- what is left of the haystack
pub rest_from : (hay : List ℕ) (start : ℕ) → take (length hay - start) (drop start hay) ≡ drop start hay
rest_from hay start = take_all (length hay - start) (drop start hay) (omega (arith, length-drop start hay))

-- the same, where the piece is the one at the start of what is left
pub next_piece : (hay : List ℕ) (ps : List Piece) (start : ℕ) (p : Piece) → ArePieces hay 0 ps start → p.start ≡ start →
    p.decoded ≡ (front_piece (take (length hay - start) (drop start hay))).decoded →
    p.bytes.now ≡ take (front_piece (take (length hay - start) (drop start hay))).len (take (length hay - start) (drop start hay)) →
    ArePieces hay 0 (ps ++ p ∷ []) (start + (front_piece (take (length hay - start) (drop start hay))).len)
unfolding piece
next_piece hay ps start p are is =
    subst (λ rest. p.decoded ≡ (front_piece rest).decoded → p.bytes.now ≡ take (front_piece rest).len rest →
    ArePieces hay 0 (ps ++ p ∷ []) (start + (front_piece rest).len))
    (sym (rest_from hay start)) (one_more hay 0 ps start p are is)
