-- The pieces of a haystack, one after another.
use Rattle.std.specs.Prelude.{◌≡◌, ℕ, ◌+◌, List, [], ◌∷◌, take, drop, unwrap_or}
use Rattle.bites_spec.specs.Utf8.{piece}
use Rattle.clients.specs.declared.explain.haystack.Piece.{Piece}

-- the character that a search sees
abbrev pub character_of : Piece → ℕ
character_of p = unwrap_or p.decoded 65533

-- From i to `end` the haystack has these pieces, one after another. Each is what the definitions find at its place.
abbrev pub ArePieces : List ℕ → ℕ → List Piece → ℕ → Type 0
ArePieces hay i [] end = i ≡ end
ArePieces hay i (p ∷ ps) end =
    (p.start ≡ i) × (p.decoded ≡ (piece hay i).decoded) × (p.bytes.now ≡ take (piece hay i).len (drop i hay))
    × ArePieces hay (i + (piece hay i).len) ps end
