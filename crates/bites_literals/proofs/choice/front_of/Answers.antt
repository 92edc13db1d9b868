use Rattle.std.proofs.Common.{◌+◌, drop, subst, arith}
use Rattle.bites_spec.specs.Tree.{Trees, trees_of}
use Rattle.bites_syntax.proofs.TreeParts.{parts_from}
use Rattle.bites_literals.specs.Choice.{StandsBefore}
use Rattle.bites_literals.proofs.ChoiceLemmas.{one_part_more}
use Rattle.bites_literals.proofs.choice.front_of.Goals as goal

pub loop-i-preserved : goal.loop-i-preserved
loop-i-preserved c =
    let parts = c.args.parts.now in
    let part = c.index-parts-i-in-loop-i in
    let from = parts_from parts c.loop-i.i part.result part.is (omega arith) in
    one_part_more c.args.front.now c.loop-i.longer (trees_of parts) (trees_of (drop (c.loop-i.i + 1) parts)) part.result
    (subst (λ (rest : Trees). StandsBefore c.args.front.now (trees_of parts) c.loop-i.longer rest) from c.loop-i.invariant)
    c.facts_of-facts.result c.facts_of-facts.ensures c.if-not-facts.false c.followed_by-longer.result c.followed_by-longer.ensures.bytes c.followed_by-longer.ensures.caseless
