use Rattle.bites_machine.proofs.Library.{common_steps, arith, walk_state}
use Rattle.bites_machine.proofs.tables.UsedLemmas.{user_counted}
use Rattle.bites_machine.proofs.refine.ClosureSteps.{closes_more, closes_by_closure, edges_left_within}
use Rattle.bites_machine.proofs.vm.closure.epsilon_closure.Goals as goal

pub loop-next-init : goal.loop-next-init
loop-next-init c = grind (arith, common_steps, edges_left_within)

pub explore-next-requires-clause-used : goal.explore-next-requires-clause-used
explore-next-requires-clause-used c = (c.requires.close.used.0, c.loop-next.invariant.users c.requires.close.used.0 c.requires.close.used.1)

pub loop-next-preserved : goal.loop-next-preserved
loop-next-preserved c =
    let old = walk_state c.args.counted.now c.args.scratch.now c.args.slots.now in
    let now = walk_state c.loop-next.counted c.loop-next.scratch c.loop-next.slots in
    let new = walk_state c.explore-next.new.counted c.explore-next.new.scratch c.explore-next.new.slots in
    closes_more c.args.here.now c.args.thread old now new c.in-Some.frame c.explore-next.result (rw (← c.in-Some.is) c.loop-next.invariant) c.explore-next.ensures

pub release-requires : goal.release-requires
release-requires c = user_counted c.loop-next.scratch.rows c.args.thread.row _ (c.loop-next.invariant.users c.requires.close.used.0 c.requires.close.used.1)

pub returns : goal.returns
returns c =
    let old = walk_state c.args.counted.now c.args.scratch.now c.args.slots.now in
    let now = walk_state c.loop-next.counted c.loop-next.scratch c.loop-next.slots in
    rw c.release.ensures (closes_by_closure c.args.here.now c.args.thread old now c.requires.close c.requires.kept
    (rw (← c.in_default.is) c.loop-next.invariant))
