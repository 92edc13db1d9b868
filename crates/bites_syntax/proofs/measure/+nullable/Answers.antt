use Rattle.std.proofs.Common.{arith}
use Rattle.bites_syntax.proofs.TreeParts.{read_below}
use Rattle.bites_syntax.proofs.measure.+nullable.Goals as goal

pub all_are_nullable-is_nullable-requires : goal.all_are_nullable-is_nullable-requires
all_are_nullable-is_nullable-requires t c =
    let below = read_below c.args.parts.now c.loop-part.part-index c.part-item.result c.part-item.is (omega arith) in
    (omega (arith, c.decreases, below), tt)

pub some_is_nullable-is_nullable-requires : goal.some_is_nullable-is_nullable-requires
some_is_nullable-is_nullable-requires t c =
    let below = read_below c.args.parts.now c.loop-part.part-index c.part-item.result c.part-item.is (omega arith) in
    (omega (arith, c.decreases, below), tt)
