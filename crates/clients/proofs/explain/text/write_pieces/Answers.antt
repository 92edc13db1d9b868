use Rattle.std.proofs.Common.{subst}
use Rattle.std.specs.Io.KnownBytes.{Appends}
use Rattle.bites_filter.proofs.Written.{appends_both}
use Rattle.clients.specs.Json.{written_char}
use Rattle.clients.proofs.PageTextLemmas.{piece_more}
use Rattle.clients.proofs.explain.text.write_pieces.Goals as goal

pub loop-piece-preserved : goal.loop-piece-preserved
loop-piece-preserved g c =
    let l = c.loop-piece in let contents = g.W.Write.contents in (
      _,
      appends_both (contents c.args.out.now) (contents l.out) (contents c.write_char.new.out) l.invariant.0 _ l.invariant.1
          (subst (λ n. Appends (contents l.out) (contents c.write_char.new.out) (written_char n)) c.character.ensures c.in_ok-write_char.ensures),
      piece_more c.args.pieces.now l.piece-index _ l.invariant.0 c.loop-piece-test.true l.invariant.2,
    )
