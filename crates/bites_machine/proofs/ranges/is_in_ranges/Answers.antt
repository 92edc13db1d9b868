use Rattle.bites_machine.proofs.Library.{◌+◌, ◌-◌, ◌/◌, arith, sym}
use Rattle.bites_machine.proofs.compile.BitLemmas.{below_more, above_more, no_hit}
use Rattle.bites_machine.proofs.ranges.is_in_ranges.Goals as goal

pub loop-low-preserved-then-last-c : goal.loop-low-preserved-then-last-c
loop-low-preserved-then-last-c c = record {
  below = λ are. below_more c.args.ranges.now (c.loop-low.low + (c.loop-low.high - c.loop-low.low) / 2) c.args.c are (omega arith) c.if-last-c.true;
  above = c.loop-low.invariant.above;
  within = c.loop-low.invariant.within;
}

pub loop-low-preserved : goal.loop-low-preserved
loop-low-preserved c = record {
  below = c.loop-low.invariant.below;
  above = λ are. above_more c.args.ranges.now (c.loop-low.low + (c.loop-low.high - c.loop-low.low) / 2) c.args.c are (omega arith) c.if-c-first.true;
  within = omega arith;
}

pub returns-clause-rising : goal.returns-clause-rising
returns-clause-rising c = λ are. sym (no_hit _ _ _ _ (c.loop-low.invariant.below are) (c.loop-low.invariant.above are) c.loop-low-test.false)
