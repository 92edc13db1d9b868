use Rattle.bites_machine.proofs.Library.{common_steps, ◌≡◌, ◌==◌, suc, not, ◌∷◌, length, reverse, ap, arith, list_any, state_at, MachineThread as Thread, threads_at, state_of, left_to_walk, traced_walking as walking_of, TracedWalk as Walk}
use Rattle.std.proofs.Math.ListN.{get_or-map}
use Rattle.bites_machine.proofs.model.MachineOnce.{one_turn}
use Rattle.bites_machine.proofs.refine.TracedSteps.{steps, sets, step_less, ranges_at}
use Rattle.bites_machine.proofs.vm.traced.Walk.of.Goals as goal
use Rattle.bites_machine.proofs.vm.traced.Walk.of.Goals.{After-unwrap_or}

pub loop-thread-init : goal.loop-thread-init
loop-thread-init c = record {
  walks = λ looks. (looks, (0, grind (arith, common_steps)));
  visited = λ q. grind (arith, common_steps);
}

abbrev popped : After-unwrap_or → Walk
popped c = let w = c.loop-thread.walk in record { stack = c.pop_front.new.self; visited = w.visited; next = w.next; first_match = w.first_match }

unseen : (c : After-unwrap_or) → list_any (λ q. q == c.in-Some.thread.state) (reverse c.loop-thread.walk.visited.items) ≡ not c.in_ok-is_new.is_new
unseen c = grind (arith, common_steps)

state_is : (c : After-unwrap_or) → state_of c.unwrap_or.result.now ≡ state_at c.args.program.now.program.states c.in-Some.thread.state
state_is c = grind (arith, common_steps, get_or-map)

pub visit-requires : goal.visit-requires
visit-requires c = rw (state_is (goal.at.visit-requires c).After-unwrap_or) (ranges_at c.args.program.now.program c.in-Some.thread.state c.start-known.ensures.well_formed)

pub loop-thread-smaller : goal.loop-thread-smaller
loop-thread-smaller c =
    let here = c.args.here.now in
    let p = c.args.program.now.program in
    let old = (goal.at.loop-thread-smaller c).After-unwrap_or in
    let items : c.loop-thread.walk.stack.items ≡ c.in-Some.thread ∷ c.pop_front.new.self.items = c.in-Some.ensures.items in
    let on = steps here.haystack.now here.longest here.place p c.in-Some.thread (popped old) c.visit.new.self c.in_ok-is_new.is_new (unseen old) (rw (state_is old) at c.in_ok-visit.ensures) 0 in
    let less = step_less here.haystack.now here.longest here.place p c.in-Some.thread c.pop_front.new.self.items (walking_of (popped old) 0) in
    omega (arith, less, ap (left_to_walk p) on, ap length items)

pub loop-thread-preserved : goal.loop-thread-preserved
loop-thread-preserved c =
    let here = c.args.here.now in
    let p = c.args.program.now.program in
    let old = (goal.at.loop-thread-preserved c).After-unwrap_or in
    let inv = c.loop-thread.invariant in
    let visits = rw (state_is old) at c.in_ok-visit.ensures in
    let on = steps here.haystack.now here.longest here.place p c.in-Some.thread (popped old) c.visit.new.self c.in_ok-is_new.is_new (unseen old) visits in
    let set = sets here.haystack.now here.longest here.place p c.in-Some.thread (popped old) c.visit.new.self c.in_ok-is_new.is_new (unseen old) visits in
    record {
      walks = λ looks.
          let walked = inv.walks looks in
          (suc walked.0, one_turn (threads_at here.haystack.now here.longest here.place) p _ (walking_of c.loop-thread.walk walked.0) _ c.in-Some.thread _ walked.1 c.in-Some.ensures.items (on walked.0));
      visited = λ q. set q _ _ (rw (ap (λ (t : Thread). t.state) c.thread.view_is) at c.in_ok-is_new.ensures.updates.0 q) (inv.visited q);
    }

pub returns-clause-walks : goal.returns-clause-walks
returns-clause-walks c looks = let walked = c.loop-thread.invariant.walks looks in (walked.0, rw c.in_default.ensures.items at walked.1)
