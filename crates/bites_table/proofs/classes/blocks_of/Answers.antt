use Rattle.bites_table.proofs.Library.{◌≡◌, length, ap, sym, ◌∙◌, arith, get_or-map, get_or_default, length-map, state_at, fail, state_of, states_of}
use Rattle.bites_table.proofs.BlockLemmas.{one_state_more, all_states, still_by_kinds}
use Rattle.bites_table.proofs.classes.blocks_of.Goals as goal

pub loop-state-preserved : goal.loop-state-preserved
loop-state-preserved c =
    let len : length (states_of c.args.states.now) ≡ length c.args.states.now = length-map c.args.states.now state_of in
    let state = c.state-item.result in
    let is : state_of state ≡ state_at (states_of c.args.states.now) c.loop-state.state-index =
    ap state_of c.state-item.is ∙ sym (get_or-map state_of c.args.states.now c.loop-state.state-index state (state_of state) (omega arith))
    ∙ get_or_default (states_of c.args.states.now) c.loop-state.state-index (state_of state) fail (omega arith) in
    let done = c.in_ok-split_state.ensures in
    let inv = c.loop-state.invariant in record {
      blocks = done.blocks;
      len = done.len;
      states = one_state_more c.args.begins.now c.loop-state.blocks.of.items c.split_state.new.blocks.of.items (states_of c.args.states.now) c.loop-state.state-index (state_of state) is
          inv.len done.finer done.alike inv.states;
      kinds = still_by_kinds c.args.begins.now c.loop-state.blocks.of.items c.split_state.new.blocks.of.items c.args.kinds inv.len done.finer inv.kinds;
    }

pub returns-clause-states : goal.returns-clause-states
returns-clause-states c =
    let len : length (states_of c.args.states.now) ≡ length c.args.states.now = length-map c.args.states.now state_of in
    all_states c.args.begins.now c.loop-state.blocks.of.items c.renumber.new.self.of.items (states_of c.args.states.now) c.loop-state.state-index (omega (arith, c.loop-state-test.false))
    c.loop-state.invariant.len c.in_ok-renumber.ensures.finer c.loop-state.invariant.states
