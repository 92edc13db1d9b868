use Rattle.bites_machine.proofs.Library.{common_steps, ◌≡◌, inl, refl, sym, ap, ◌∙◌, arith, true, false, Some, slice_index_or, slice_set, not-false, not-true, set-get_or, length-map, states_of, walk_state}
use Rattle.bites_machine.proofs.steps.ExploreSteps.{popped, none_popped, not_visited, not_all_members, edges_of_member, explores_again, explores_new}
use Rattle.bites_machine.proofs.vm.closure.explore.Goals as goal

pub insert-requires : goal.insert-requires
insert-requires c = omega (arith, c.requires.ready.known c.args.frame (inl refl), c.requires.ready.place.visited_set)

pub returns-then-not-insert : goal.returns-then-not-insert
returns-then-not-insert c =
    let is_member : slice_index_or c.args.scratch.now.visited_set c.args.frame.state false ≡ true = not-false (slice_index_or c.args.scratch.now.visited_set c.args.frame.state false) (sym c.insert.ensures.new ∙ c.if-not-insert.true) in
    explores_again _ _ _ _ _ _ _ _ c.requires.ready is_member
    (c.insert.ensures.inserted ∙ ap (slice_set c.args.scratch.now.visited_set c.args.frame.state) (sym is_member) ∙ set-get_or c.args.scratch.now.visited_set c.args.frame.state false)
    (popped _ _ _ c.pop.ensures.frames) c.pop.ensures.room c.step.ensures.states c.step.ensures.walked (none_popped _ _ _ c.pop.ensures.frames)

pub follow-requires : goal.follow-requires
follow-requires c =
    let w = c.args.scratch.now in
    let q = c.args.frame.state in
    let place = c.requires.ready.place in
    let not_member : slice_index_or w.visited_set q false ≡ false = not-true _ (sym c.if-not-insert.ensures.new) in
    let state = c.requires.ready.known c.args.frame (inl refl) in
    let some = not_all_members w.visited_set q (omega (arith, state, place.visited_set)) not_member in
    let edges = edges_of_member (states_of c.args.counted.now.states.now) w.visited_set q place.visited_set state not_member in
    grind (arith, common_steps, length-map, not_visited)

pub returns-in-Some : goal.returns-in-Some
returns-in-Some c =
    let old = walk_state c.args.counted.now c.args.scratch.now c.args.slots.now in
    let not_member : slice_index_or c.args.scratch.now.visited_set c.args.frame.state false ≡ false = not-true _ (sym c.if-not-insert.ensures.new) in
    let v = rw c.step.ensures.states at c.in-Some.ensures.moves in
    explores_new c.args.here.now c.args.thread c.args.frame old c.follow.new.counted c.insert.new.self c.follow.new.scratch c.follow.new.scratch.stack c.follow.new.slots (Some c.in-Some.frame) (Some c.in-Some.frame)
    c.requires.ready not_member c.insert.ensures.inserted v refl refl (c.follow.ensures.visited.states ∙ c.step.ensures.states) c.step.new.self.walked c.step.ensures.walked c.follow.ensures.visited.walked (λ e. cc)

pub returns-in-None : goal.returns-in-None
returns-in-None c =
    let not_member : slice_index_or c.args.scratch.now.visited_set c.args.frame.state false ≡ false = not-true _ (sym c.if-not-insert.ensures.new) in
    let v = rw c.step.ensures.states at c.in-None.ensures.moves in
    explores_new _ _ _ _ _ _ _ _ _ _ _ c.requires.ready not_member c.insert.ensures.inserted v
    (popped _ _ _ c.pop-in-None.ensures.frames) c.pop-in-None.ensures.room
    (c.follow.ensures.visited.states ∙ c.step.ensures.states) c.step.new.self.walked c.step.ensures.walked c.follow.ensures.visited.walked
    (none_popped _ _ _ c.pop-in-None.ensures.frames)
