use Rattle.std.proofs.Common.{subst, sym}
use Rattle.bites_filter.specs.Table.{NamedRegex, IsReach}
use Rattle.bites_filter.proofs.TableLemmas.{best_kept, best_taken, best_is_furthest, put_back}
use Rattle.bites_filter.proofs.table.furthest.Goals as goal
use Rattle.bites_filter.proofs.table.furthest.Goals.{then-end-reading, else-end-reading}

pub loop-number-preserved : goal.loop-number-preserved
loop-number-preserved c =
    let l = c.loop-number in let rules = c.args.rules.now in let n = l.number in let r = c.index-rules-number.result in
    let best = l.invariant.1 in let is = c.index-rules-number.is in
    let put = put_back l.rules rules n r c.reach-end.new.self l.invariant.0 c.loop-number-test.true is c.reach-end.ensures.same in
    let reach = subst (λ (q : NamedRegex). IsReach q.regex.tree c.args.text.now c.args.start c.reach-end.result) (sym is) c.reach-end.ensures.reach in
    let reading = l.reading in (
      put.1,
      elim c.if-end-reading.branch [
        | then-end-reading w ↦
            rw w.reading-is
            (best_taken rules c.args.text.now c.args.start n reading.rule reading.end best r put.0 c.reach-end.result reach w.if-end-reading.true)
        | else-end-reading w ↦
            rw w.reading-is
            (best_kept rules c.args.text.now c.args.start n reading.rule reading.end best r put.0 c.reach-end.result reach w.if-end-reading.false)
      ],
    )

pub returns-clause-furthest : goal.returns-clause-furthest
returns-clause-furthest c =
    best_is_furthest c.args.rules.now c.args.text.now c.args.start c.loop-number.number c.loop-number.reading.rule c.loop-number.reading.end
    c.loop-number-test.false c.loop-number.invariant.1
