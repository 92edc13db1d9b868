use Rattle.std.proofs.Common.{◌∙◌, subst}
use Rattle.std.specs.Io.KnownBytes.{Appends}
use Rattle.bites_bytes.specs.Matched.{excerpt_of}
use Rattle.bites_bytes.specs.Searcher.{matches_left}
use Rattle.bites_filter.proofs.Written.{appends_both}
use Rattle.clients.specs.Selected.{label, labelled_match}
use Rattle.clients.proofs.ShownLemmas.{match_lines, match_more}
use Rattle.clients.proofs.lines.shown.write_matches.Goals as goal

pub loop-found-preserved : goal.loop-found-preserved
loop-found-preserved g c =
    let l = c.loop-found in let contents = g.W.Write.contents in let f = c.args.format in let n = c.args.number in
    let step = c.in-Some.ensures in (
      _,
      appends_both (contents c.args.out.now) (contents l.out) (contents c.write_match.new.out) l.invariant.0 _ l.invariant.1
          (subst (λ t. Appends (contents l.out) (contents c.write_match.new.out) (labelled_match (label f n) t)) c.as_bytes.ensures
          c.in_ok-write_match.ensures),
      match_more f n (matches_left l.found-iterator) (matches_left c.next.new.self) (excerpt_of c.in-Some.found)
          (match_lines f n (matches_left c.into_iter-found-iterator.result)) l.invariant.0 step.steps.0 l.invariant.2,
      (step.steps.1.0 ∙ l.invariant.3.0, step.steps.1.1 ∙ l.invariant.3.1),
    )
