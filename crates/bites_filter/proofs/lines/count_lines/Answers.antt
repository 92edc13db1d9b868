use Rattle.std.proofs.Common.{rules, ◌≡◌, ◌+◌, ◌≤◌, ap, sym, ◌∙◌, take, drop, length, arith}
use Rattle.std.proofs.lemmas.List.{take_all, length-drop, length-take-le}
use Rattle.bites_filter.specs.Lines.{line_feeds}
use Rattle.bites_filter.proofs.SkipLemmas.{as_many, line_feeds_few, line_feeds_further}
use Rattle.bites_filter.proofs.lines.count_lines.Goals as goal

pub parts-preserved : goal.parts-preserved
parts-preserved c =
    let bytes = c.args.bytes.now in let at = c.parts.at in let n = c.min.result in
    let within : at + n ≤ length bytes = omega (arith, c.min.ensures, c.parts.invariant.within) in
    let part : c.count_line_feeds.result ≡ line_feeds (take n (drop at bytes)) =
    c.count_line_feeds.ensures ∙ ap (λ k. line_feeds (take k (drop at bytes))) (omega arith) in
    let more = line_feeds_further bytes at n within in
    let few = line_feeds_few (take n (drop at bytes)) in
    let long = length-take-le n (drop at bytes) (omega (arith, length-drop at bytes, within)) in
    record {
      within = within;
      counted = omega (arith, c.parts.invariant.counted, part, more);
      few = omega (arith, c.parts.invariant.few, part, few, long);
    }

pub returns : goal.returns
returns c whole =
    let bytes = c.args.bytes.now in
    c.parts.invariant.counted ∙ ap line_feeds (take_all c.parts.at bytes (search rules)) ∙ sym (as_many bytes whole)
