use Rattle.std.proofs.Common.{◌≤◌, ◌<◌, ◌⊎◌, ◌∙◌, subst, arith}
use Rattle.std.proofs.lemmas.Option.{MatchOption-at_none, MatchOption-at_some}
use Rattle.bites_syntax.proofs.NodeLemmas.{two_of}
use Rattle.bites_syntax.proofs.node.parts_of.Goals as goal
use Rattle.bites_syntax.proofs.node.parts_of.Goals.{in-Some-height_above, in-None-height_above}

pub returns-in_default : goal.returns-in_default
returns-in_default c = λ ts are.
    let two = two_of c.args.limit c.args.nodes.items ts (omega (arith, c.args.nodes.ok.0)) are in
    (two.first, two.second, two.more, two.are, MatchOption-at_none _ _ c.in_default.is (c.in_ok-trees.ensures ts are))

pub returns : goal.returns
returns c = λ ts are.
    let two = two_of c.args.limit c.args.nodes.items ts (omega (arith, c.args.nodes.ok.0)) are in
    let kept = MatchOption-at_some _ _ _ c.in-Some-2.is (c.in_ok-trees.ensures ts are) in
    elim c.match-height_above.branch [
      | in-Some-height_above w ↦ rw w.result-is (
        two.first,
        two.second,
        two.more,
        two.are,
        kept.0,
        w.in-Some-height_above.ensures.0 ∙ kept.1,
        w.in-Some-height_above.ensures.1,
        w.in-Some-height_above.ensures.2,
      )
      | in-None-height_above w ↦ rw w.result-is (
        two.first,
        two.second,
        two.more,
        two.are,
        subst (λ n. (c.args.limit < n) ⊎ (4294967295 ≤ n)) kept.1 w.in-None-height_above.ensures,
      )
    ]
