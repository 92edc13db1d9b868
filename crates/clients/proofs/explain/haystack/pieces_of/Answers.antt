use Rattle.std.proofs.Common.{◌+◌, ◌-◌, length, take, drop, refl, ap, sym, subst, arith}
use Rattle.std.proofs.lemmas.List.{length-drop}
use Rattle.bites_spec.specs.Utf8.{front_piece}
use Rattle.clients.specs.Haystack.{ArePieces}
use Rattle.clients.proofs.PagePieceLemmas.{next_piece, rest_from}
use Rattle.clients.proofs.explain.haystack.pieces_of.Goals as goal

pub loop-start-preserved : goal.loop-start-preserved
loop-start-preserved c =
    let hay = c.args.haystack.now in let l = c.loop-start in let decoded = c.decode-decoded.ensures in
    let rest = take (length hay - l.start) (drop l.start hay) in
    let more = next_piece hay l.pieces.items l.start _ l.invariant.0 refl decoded.decoded (ap (λ n. take n rest) decoded.len) in (
      subst (λ n. ArePieces hay 0 c.push.new.self.items (l.start + n)) (sym decoded.len)
          (subst (λ ps. ArePieces hay 0 ps (l.start + (front_piece rest).len)) (sym c.in_ok-push.ensures.items) more),
      omega (arith, decoded.within, ap length (rest_from hay l.start), length-drop l.start hay, c.loop-start-test.true),
    )
