use Rattle.bites_table.proofs.Library.{◌≡◌, ◌++◌, length, ap, sym, ◌∙◌, arith, slice_index_or, get_or-map, length-map, state_of, states_of}
use Rattle.bites_table.specs.Bounds.{bounds_of_state}
use Rattle.bites_table.proofs.BoundLemmas.{one_state}
use Rattle.bites_table.proofs.bounds.push_states.Goals as goal

pub loop-state-preserved : goal.loop-state-preserved
loop-state-preserved c =
    let len : length (states_of c.args.states.now) ≡ length c.args.states.now = length-map c.args.states.now state_of in
    let state = c.state-item.result in
    let is : state_of state ≡ slice_index_or (states_of c.args.states.now) c.loop-state.state-index (state_of state) =
    ap state_of c.state-item.is ∙ sym (get_or-map state_of c.args.states.now c.loop-state.state-index state (state_of state) (omega arith)) in
    one_state c.args.bounds.now.items c.loop-state.bounds.items c.push_state.new.bounds.items (states_of c.args.states.now) c.loop-state.state-index (state_of state) (omega arith) c.loop-state.invariant
    (c.in_ok-push_state.ensures ∙ ap (λ s. c.loop-state.bounds.items ++ bounds_of_state s) is)
