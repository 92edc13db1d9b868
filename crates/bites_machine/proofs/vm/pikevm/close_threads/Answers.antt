use Rattle.bites_machine.proofs.Library.{common_steps, ◌<◌, ◌+◌, ◌∷◌, drop, length, map, sym, subst, arith, Among, walk_state, row_of, ClosesThreads}
use Rattle.bites_machine.proofs.refine.PlaceLemmas.{among_index, some_more, user_first}
use Rattle.bites_machine.proofs.vm.pikevm.close_threads.Goals as goal
use Rattle.bites_machine.proofs.vm.pikevm.close_threads.Goals.{After-at}

within : (c : After-at) → c.loop-index.index < length c.args.threads.now.threads
within c = subst (λ n. c.loop-index.index < n) c.len.ensures c.loop-index-test.true

-- the threads that are left begin with this one
left : (c : After-at) → ClosesThreads c.args.here.now c.args.threads.now.threads (c.at.result ∷ drop (c.loop-index.index + 1) c.args.threads.now.threads)
    (walk_state c.args.counted.now c.args.scratch.now c.args.slots.now) (walk_state c.loop-index.counted c.loop-index.scratch c.loop-index.slots)
left c = grind (arith, common_steps)

pub close_thread-requires : goal.close_thread-requires
close_thread-requires c =
    let ts = c.args.threads.now.threads in
    let now = walk_state c.loop-index.counted c.loop-index.scratch c.loop-index.slots in
    let at = (goal.at.close_thread-requires c).After-at in
    let rest = drop (c.loop-index.index + 1) ts in
    record {
      within_step = c.loop-index.invariant.walks.within_step;
      known = rw c.loop-index.invariant.walks.keeps.passes.states (c.requires.known c.at.result (subst (Among ts) (sym c.at.ensures) (among_index ts c.loop-index.index c.at.result (within at))));
      used = (map row_of rest, user_first c.args.here.now ts c.at.result rest (walk_state c.args.counted.now c.args.scratch.now c.args.slots.now) now (left at));
    }

pub loop-index-preserved : goal.loop-index-preserved
loop-index-preserved c = search (arith, within, some_more, left)
