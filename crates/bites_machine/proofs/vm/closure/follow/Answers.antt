use Rattle.bites_machine.proofs.Library.{ap, sym, ◌∙◌, inl, refl, ◌==◌, state_of, takes_by, in_ranges}
use Rattle.bites_machine.proofs.steps.VisitLemmas.{visits_splits, visits_on, visits_not_on, visits_fail, visits_char, visits_ranges}
use Rattle.bites_machine.proofs.steps.CaptureLemmas.{visits_capture, visits_match}
use Rattle.bites_machine.proofs.vm.closure.follow.Goals as goal

pub returns-in-Char-clause-moves : goal.returns-in-Char-clause-moves
returns-in-Char-clause-moves c =
    rw (← sym (ap state_of c.in-Char.is) ∙ c.visit.ensures.state)
    (visits_char _ _ _ _ _ _ _ _ _ _ c.is_char-takes.result (c.is_char-takes.ensures ∙ ap (takes_by (λ d. d == c.in-Char.ch)) c.args.here.now.ch_is) c.step_char.ensures c.requires.pending c.requires.starts)

pub returns-in-Ranges-clause-moves : goal.returns-in-Ranges-clause-moves
returns-in-Ranges-clause-moves c =
    rw (← sym (ap state_of c.in-Ranges.is) ∙ c.visit.ensures.state)
    (visits_ranges _ _ _ _ _ _ _ _ _ _ c.is_in-takes.result (c.is_in-takes.ensures ∙ ap (takes_by (in_ranges c.in-Ranges.ranges)) c.args.here.now.ch_is) c.step_char-in-Ranges.ensures c.requires.pending c.requires.starts)

pub returns-in-Splits-clause-moves : goal.returns-in-Splits-clause-moves
returns-in-Splits-clause-moves c =
    rw (← sym (ap state_of c.in-Splits.is) ∙ c.visit.ensures.state)
    (visits_splits _ _ _ c.in-Splits.targets c.in-Splits.reverse _ _ c.args.scratch.now c.split.new.stack _ _ c.split.ensures.frames c.split.ensures.room c.requires.pending c.requires.starts)

pub returns-then-holds-clause-moves : goal.returns-then-holds-clause-moves
returns-then-holds-clause-moves c =
    rw (← sym (ap state_of c.in-Goto.is) ∙ c.visit.ensures.state) (visits_on _ _ _ _ _ _ _ _ _ (sym c.holds.ensures ∙ c.if-holds.true) c.requires.pending c.requires.starts)

pub returns-else-holds-clause-moves : goal.returns-else-holds-clause-moves
returns-else-holds-clause-moves c =
    rw (← sym (ap state_of c.in-Goto.is) ∙ c.visit.ensures.state) (visits_not_on _ _ _ _ _ _ _ _ _ (sym c.holds.ensures ∙ c.if-holds.false) c.requires.pending c.requires.starts)

pub returns-in-Capture-clause-moves : goal.returns-in-Capture-clause-moves
returns-in-Capture-clause-moves c =
    rw (c.set_pending-pending_len.ensures.pending, ← sym (ap state_of c.in-Capture.is) ∙ c.visit.ensures.state)
    (visits_capture _ _ _ _ _ _ _ _ _ _ c.requires.pending_len (c.requires.used.1.wide c.args.thread.row (inl refl)) c.set_pending-pending_len.ensures.count c.requires.pending c.requires.starts)

pub returns-in-Fail-clause-moves : goal.returns-in-Fail-clause-moves
returns-in-Fail-clause-moves c = rw (← sym (ap state_of c.in-Fail.is) ∙ c.visit.ensures.state) (visits_fail _ _ _ _ _ _ _ c.requires.pending c.requires.starts)

pub returns-in-Match-clause-moves : goal.returns-in-Match-clause-moves
returns-in-Match-clause-moves c =
    rw (← sym (ap state_of c.in-Match.is) ∙ c.visit.ensures.state)
    (visits_match _ _ _ _ _ _ _ _ _ c.record_match.ensures.first_match c.record_match.ensures.slots c.record_match.ensures.frames c.record_match.ensures.room c.record_match.ensures.visited_set
    c.record_match.ensures.rows c.record_match.ensures.next (c.requires.used.1.wide c.args.thread.row (inl refl) ∙ sym c.requires.slots_per_row) c.requires.pending c.requires.starts)
