use Rattle.std.proofs.Common.{◌∷◌, [], get_or, sym, ap, arith}
use Rattle.bites_spec.specs.Utf8.{Piece, front_piece, continuation}
use Rattle.bites_text.proofs.FrontLemmas.{fits_at, stops_at, decoded_is, continuation_bounds, two_part_1, two_whole, two_scalar}
use Rattle.bites_text.proofs.utf8.decode_two.Goals as goal

pub returns-in_default : goal.returns-in_default
returns-in_default c =
    let b = c.args.first in
    let s = c.args.rest.now in
    let is = two_part_1 b s c.requires.from c.requires.to (λ there. absurd (omega (arith, there))) in
    record { decoded = ap (λ (p : Piece). p.decoded) (sym is); len = ap (λ (p : Piece). p.len) (sym is) }

pub returns-in_default-2 : goal.returns-in_default-2
returns-in_default-2 c =
    let b = c.args.first in
    let s = c.args.rest.now in
    let is = two_part_1 b s c.requires.from c.requires.to (stops_at continuation s 0 c.is_continuation.result c.is_continuation.ensures c.if-is_continuation.false) in
    record { decoded = ap (λ (p : Piece). p.decoded) (sym is); len = ap (λ (p : Piece). p.len) (sym is) }

pub returns-in-len1-up : goal.returns-in-len1-up
returns-in-len1-up c =
    let b = c.args.first in
    let s = c.args.rest.now in
    let first = fits_at continuation s 0 c.is_continuation.result (omega arith) c.is_continuation.ensures c.if-is_continuation.true in
    let low = continuation_bounds (get_or s 0 0) first.lies in
    let is = two_whole b s c.requires.from c.requires.to first in
    let made = c.from_u32.ensures in
    record {
      decoded = decoded_is c.from_u32.result _ (b ∷ get_or s 0 0 ∷ []) (front_piece (b ∷ s)) is (omega arith) (two_scalar b (get_or s 0 0) c.requires.from c.requires.to low.1) made.value made.succeeds;
      len = ap (λ (p : Piece). p.len) (sym is);
    }
