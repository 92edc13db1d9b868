use Rattle.std.proofs.Common.{arith}
use Rattle.bites_syntax.proofs.TreeParts.{read_below, greatest_from}
use Rattle.bites_syntax.proofs.measure.+groups.Goals as goal

pub greatest_group_of-greatest_group-requires : goal.greatest_group_of-greatest_group-requires
greatest_group_of-greatest_group-requires t c =
    let below = read_below c.args.parts.now c.loop-part.part-index c.part-item.result c.part-item.is (omega arith) in
    (omega (arith, c.decreases, below), tt)

pub greatest_group_of-loop-part-preserved : goal.greatest_group_of-loop-part-preserved
greatest_group_of-loop-part-preserved t c =
    let from = greatest_from c.args.parts.now c.loop-part.part-index c.part-item.result c.part-item.is (omega arith) in
    omega (arith, from, c.max-most.ensures, c.greatest_group.ensures, c.loop-part.invariant)
