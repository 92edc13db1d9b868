use Rattle.std.proofs.Common.{arith}
use Rattle.bites_syntax.proofs.TreeParts.{read_below, parts_from, parts_end}
use Rattle.bites_spec.specs.Measure.{tallest}
use Rattle.std.proofs.Common.{ap}
use Rattle.bites_syntax.proofs.measure.+height.Goals as goal

pub tallest-height-requires : goal.tallest-height-requires
tallest-height-requires t c =
    let below = read_below c.args.parts.now c.loop-part.part-index c.part-item.result c.part-item.is (omega arith) in
    (omega (arith, c.decreases, below), tt)

pub tallest-returns : goal.tallest-returns
tallest-returns t c =
    let none = ap tallest (parts_end c.args.parts.now c.loop-part.part-index c.loop-part-test.false) in
    omega (arith, none, c.loop-part.invariant.so_far, c.loop-part.invariant.fits)

pub tallest-loop-part-preserved : goal.tallest-loop-part-preserved
tallest-loop-part-preserved t c =
    let from = ap tallest (parts_from c.args.parts.now c.loop-part.part-index c.part-item.result c.part-item.is (omega arith)) in
    record {
      so_far = omega (arith, from, c.max-most.ensures, c.height.ensures, c.loop-part.invariant.so_far);
      fits = omega (arith, c.max-most.ensures, c.height.ensures, c.loop-part.invariant.fits);
    }
