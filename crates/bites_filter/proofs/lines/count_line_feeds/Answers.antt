use Rattle.std.proofs.Common.{rules, ◌+◌, ap, sym, ◌∙◌, arith}
use Rattle.std.proofs.lemmas.List.{take_all}
use Rattle.bites_filter.specs.Lines.{line_feeds}
use Rattle.bites_filter.proofs.SkipLemmas.{line_feeds_hit, line_feeds_miss}
use Rattle.bites_filter.proofs.lines.count_line_feeds.Goals.{then-byte-eq10, else-byte-eq10}
use Rattle.bites_filter.proofs.lines.count_line_feeds.Goals as goal

pub loop-byte-preserved : goal.loop-byte-preserved
loop-byte-preserved c =
    let bytes = c.args.bytes.now in let i = c.loop-byte.byte-index in
    elim c.if-byte-eq10.branch [
      | then-byte-eq10 w ↦ record {
        counted = w.count-is ∙ ap (λ n. n + 1) c.loop-byte.invariant.counted ∙ sym (line_feeds_hit bytes i (search rules) w.if-byte-eq10.true);
        few = omega (arith, w.count-is, c.loop-byte.invariant.few);
      }
      | else-byte-eq10 w ↦ record {
        counted = w.count-is ∙ c.loop-byte.invariant.counted ∙ sym (line_feeds_miss bytes i (search rules) w.if-byte-eq10.false);
        few = omega (arith, w.count-is, c.loop-byte.invariant.few);
      }
    ]

pub returns : goal.returns
returns c = c.loop-byte.invariant.counted ∙ ap line_feeds (take_all c.loop-byte.byte-index c.args.bytes.now (search rules))
