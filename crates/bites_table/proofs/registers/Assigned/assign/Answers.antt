use Rattle.bites_table.proofs.Library.{common_steps, None, ◌+◌, ◌++◌, map, take, refl, sym, ap, ◌∙◌, subst, arith, state_at, targets_over, slice_index_or, option_to_list, take_all, state_of}
use Rattle.bites_table.proofs.Words.{taken, thread_with, source_of, frame_of, AreAssigned, Frame, Assigned}
use Rattle.bites_table.proofs.FrameLemmas.{has_ranges}
use Rattle.bites_table.proofs.RegisterLemmas.{taken-next, none_more}
use Rattle.bites_table.proofs.registers.Assigned.assign.Goals as goal
use Rattle.bites_table.proofs.registers.Assigned.assign.Goals.{then-not-is_refused+else-taker-len+in-None, then-not-is_refused+else-taker-len+in-Some+in_ok-push-in-Some, else-not-is_refused}

pub target_over-requires : goal.target_over-requires
target_over-requires c = grind (arith, common_steps, has_ranges)

pub loop-taker-preserved : goal.loop-taker-preserved
loop-taker-preserved c k are member =
    let p = c.args.program.now.program in
    let none : Frame = record { state = 0; source = record { register = None; writes = 0 } } in
    let i = c.loop-taker.taker-index in
    let f = slice_index_or c.args.takers.now i none in
    let before = taken p c.args.ch (map frame_of (take i c.args.takers.now)) in
    let own = c.loop-taker.invariant k are member in
    elim c.if-not-is_refused.branch [
      | then-not-is_refused+else-taker-len+in-None w ↦
          let next = taken-next p c.args.ch c.args.takers.now i none (state_of w.state.result.now) w.target_over.result (omega arith) w.state.ensures w.target_over.ensures in
          subst (AreAssigned c.if-not-is_refused.self) next
          (subst (λ (a : Assigned). AreAssigned a (before ++ map (thread_with (source_of f.source)) (option_to_list w.target_over.result))) (sym w.self-is)
          (subst (λ r. AreAssigned c.loop-taker.self (before ++ map (thread_with (source_of f.source)) (option_to_list r))) (sym w.in-None.is) (none_more c.loop-taker.self before own)))
      | then-not-is_refused+else-taker-len+in-Some+in_ok-push-in-Some w ↦
          let next = taken-next p c.args.ch c.args.takers.now i none (state_of w.state.result.now) w.target_over.result (omega arith) w.state.ensures w.target_over.ensures in
          subst (AreAssigned c.if-not-is_refused.self) next
          (subst (λ (a : Assigned). AreAssigned a (before ++ map (thread_with (source_of f.source)) (option_to_list w.target_over.result))) (sym w.self-is)
          (subst (λ r. AreAssigned w.push.new.self (before ++ map (thread_with (source_of f.source)) (option_to_list r))) (sym w.in-Some.is) (w.in_ok-push-in-Some.ensures before own)))
      | else-not-is_refused w ↦
          let nowhere = c.is_refused.ensures w.if-not-is_refused.false p k are in
          let next = taken-next p c.args.ch c.args.takers.now i none (state_at p.states f.state) None (omega arith) refl (sym (ap (λ o. targets_over o (state_at p.states f.state)) (sym member) ∙ nowhere)) in
          subst (λ (a : Assigned). AreAssigned a (taken p c.args.ch (map frame_of (take (i + 1) c.args.takers.now)))) (sym w.self-is)
          (subst (AreAssigned c.loop-taker.self) next (none_more c.loop-taker.self before own))
    ]

pub returns : goal.returns
returns c k are member = grind (arith, common_steps, take_all)
