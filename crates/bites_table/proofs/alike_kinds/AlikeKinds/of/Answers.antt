use Rattle.bites_table.proofs.Library.{arith, ◌≡◌, ap, sym, ◌∙◌, get_or-map, get_or_default, length-map, state_at, fail, state_of, states_of}
use Rattle.bites_table.proofs.Words.{before_state, after_state, NoneAsserted, AlikeKinds}
use Rattle.bites_table.proofs.DistinctionLemmas.{cover_asserted, cover_none}
use Rattle.bites_table.proofs.alike_kinds.AlikeKinds.of.Goals as goal
use Rattle.bites_table.proofs.alike_kinds.AlikeKinds.of.Goals.{in-Some, in_default}

pub loop-state-preserved : goal.loop-state-preserved
loop-state-preserved c =
    let states = c.states-state-items.result.now in
    let ss = c.args.program.now.program.states in
    let i = c.loop-state.state-index in
    let old = c.loop-state.kinds in
    let inv = c.loop-state.invariant in
    let state = c.state-item.result in
    let len = length-map states state_of in
    let is : state_of state ≡ state_at ss i =
    ap state_of c.state-item.is ∙ sym (get_or-map state_of states i state (state_of state) (omega arith))
    ∙ get_or_default (states_of states) i (state_of state) fail (omega arith) ∙ ap (λ l. state_at l i) c.states-state-items.ensures in
    elim c.match-assertion_of.branch [
      | in-Some w ↦
          let own = w.in-Some.ensures in
          record {
            before_place = cover_asserted before_state ss i old.before (state_of state) is inv.before_place _ c.match-assertion_of.kinds.before own.before_place
                (ap (λ (k : AlikeKinds). k.before) w.kinds-is ∙ w.or-kinds.ensures.before);
            after_place = cover_asserted after_state ss i old.after (state_of state) is inv.after_place _ c.match-assertion_of.kinds.after own.after_place
                (ap (λ (k : AlikeKinds). k.after) w.kinds-is ∙ w.or-kinds.ensures.after);
          }
      | in_default w ↦
          let none : NoneAsserted (state_of state) = w.in_default.ensures in
          record {
            before_place = cover_none before_state ss i old.before (state_of state) is inv.before_place c.match-assertion_of.kinds.before none.before_place (ap (λ (k : AlikeKinds). k.before) w.kinds-is);
            after_place = cover_none after_state ss i old.after (state_of state) is inv.after_place c.match-assertion_of.kinds.after none.after_place (ap (λ (k : AlikeKinds). k.after) w.kinds-is);
          }
    ]
