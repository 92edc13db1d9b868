-- How many bytes the first piece takes.
use Rattle.std.proofs.Common.{◌≡◌, ℕ, ◌<◌, ◌≤◌, List, length, arith}
use Rattle.bites_spec.proofs.utf8.AsciiPieces.{piece_short}
use Rattle.bites_spec.proofs.utf8.PieceLemmas.{piece_within, piece_some}
use Rattle.bites_spec.specs.Utf8.{piece, front_piece}

-- a number that is the length of the first piece
pub record FrontLen (bytes : List ℕ) (n : ℕ) : Type 0 where
  pub short : n ≤ 4
  pub within : n ≤ length bytes
  pub further : 0 < length bytes → 0 < n

-- what the clauses of the decoders say of it
pub front_len : (bytes : List ℕ) (n : ℕ) → n ≡ (front_piece bytes).len → FrontLen bytes n
unfolding piece
front_len bytes n is =
    let short = piece_short bytes 0 in
    let within = piece_within bytes 0 (omega arith) in
    record { short = omega arith; within = omega arith; further = λ some. rw is (piece_some bytes 0 some) }
