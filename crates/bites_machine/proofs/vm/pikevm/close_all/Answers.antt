use Rattle.bites_machine.proofs.Library.{ℕ, [], Option, List, refl, sym, subst, Bor, length, ◌<◌, if◌then◌else◌, IfSome, states_of, walk_state, StoredState as State, Thread, CanClose}
use Rattle.bites_machine.proofs.refine.BetweenStepsLemmas.{all_without, all_with, start_used}
use Rattle.bites_machine.proofs.vm.pikevm.close_all.Goals as goal

pub returns-in_default : goal.returns-in_default
returns-in_default c = rw c.in_default.is (all_without _ _ _ _ c.close_threads.ensures)

pub close_thread-requires : goal.close_thread-requires
close_thread-requires c =
    let old = walk_state c.args.counted.now c.args.scratch.now c.args.slots.now in
    let new = walk_state c.close_threads.new.counted c.close_threads.new.scratch c.close_threads.new.slots in
    let first : c.in-Some.state < length (states_of c.args.counted.now.states.now) = subst (λ (o : Option ℕ). IfSome o (λ q. q < length (states_of c.args.counted.now.states.now))) c.in-Some.is c.requires.first in
    subst (λ (t : Thread). CanClose c.args.here.now t new) (sym c.started-thread.ensures) (record {
      within_step = c.close_threads.ensures.within_step;
      known = subst (λ (b : Bor (List State)). c.in-Some.state < length (states_of b.now)) (sym c.close_threads.ensures.keeps.passes.states) first;
      used = ([], start_used c.args.here.now c.args.threads.now.threads old new c.close_threads.ensures);
    })

pub returns-in-Some : goal.returns-in-Some
returns-in-Some c =
    let old = walk_state c.args.counted.now c.args.scratch.now c.args.slots.now in
    let new = walk_state c.close_threads.new.counted c.close_threads.new.scratch c.close_threads.new.slots in
    let last = walk_state c.close_thread.new.counted c.close_thread.new.scratch c.close_thread.new.slots in
    rw c.in-Some.is (all_with c.args.here.now c.args.threads.now.threads old new c.close_threads.ensures c.in-Some.state (if c.args.here.now.longest then c.args.here.now.place else 0) last refl
    (rw (← c.started-thread.ensures) c.close_thread.ensures))
