use Rattle.bites_filter.proofs.Written.{appends_both}
use Rattle.clients.proofs.TokenLemmas.{byte_more}
use Rattle.clients.proofs.tokens.lexer.write_escaped.Goals as goal

pub loop-byte-preserved : goal.loop-byte-preserved
loop-byte-preserved g c =
    let l = c.loop-byte in let contents = g.W.Write.contents in (
      _,
      appends_both (contents c.args.out.now) (contents l.out) (contents c.write_byte.new.out) l.invariant.0 _ l.invariant.1 c.in_ok-write_byte.ensures,
      byte_more c.args.text.now l.byte-index _ l.invariant.0 c.loop-byte-test.true l.invariant.2,
    )
