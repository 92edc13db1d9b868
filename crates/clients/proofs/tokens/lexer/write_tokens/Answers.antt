use Rattle.std.proofs.Common.{◌∙◌, ◌-◌, ap, take, drop, subst}
use Rattle.std.specs.Io.KnownBytes.{Appends}
use Rattle.bites_filter.specs.Table.{IsFurthest, name_at}
use Rattle.clients.specs.Tokens.{AreWritten, token_line}
use Rattle.clients.proofs.TokenLemmas.{so_far_more, all_so_far}
use Rattle.clients.proofs.tokens.lexer.write_tokens.Goals as goal

pub loop-start-preserved : goal.loop-start-preserved
loop-start-preserved g c =
    let rules = c.furthest-token.new.rules in let text = c.args.text.now in let l = c.loop-start in let t = l.token in
    let same = l.invariant.0 in let furthest = l.invariant.1 in let next = c.furthest-token-in-loop-start in
    let line = subst (λ n. Appends (g.W.Write.contents l.out) (g.W.Write.contents c.write_token.new.out)
    (token_line n (take (t.end - l.start) (drop l.start text)))) (c.name_of.ensures ∙ ap (λ rs. name_at rs t.rule) same) c.in_ok-write_token.ensures in (
      next.ensures.same ∙ same,
      subst (λ rs. IsFurthest rs text t.end next.result.rule next.result.end) same next.ensures.furthest,
      so_far_more rules text (g.W.Write.contents c.args.out.now) l.start (g.W.Write.contents l.out) (g.W.Write.contents c.write_token.new.out) t
          l.invariant.2 c.loop-start-test.true furthest line,
    )

pub returns : goal.returns
returns g c =
    let l = c.loop-start in let old = g.W.Write.contents c.args.out.now in let new = g.W.Write.contents c.flush.new.self in
    subst (λ rs. AreWritten rs c.args.text.now old new l.start) c.furthest-token.ensures.same
    (all_so_far c.furthest-token.new.rules c.args.text.now old l.start l.token.rule l.token.end (g.W.Write.contents l.out) new l.invariant.2
    l.invariant.1 c.loop-start-test.false c.in_ok-flush.ensures.bytes)
