use Rattle.bites_table.proofs.Library.{◌∷◌, suc, map, ap, ◌∙◌, if◌then◌else◌, state_of}
use Rattle.bites_table.proofs.Words.{takers_by, cuts_off, starts_as, kind_as, frame_of, walking_of}
use Rattle.bites_table.proofs.StepLemmas.{not_true, if_some, one_visit}
use Rattle.bites_table.proofs.walk.turn.Goals as goal

pub returns : goal.returns
returns c =
    if_some (λ u walked looks. one_visit (takers_by (cuts_off (starts_as c.args.starts)) (kind_as c.args.here.now.before) (kind_as c.args.here.now.after)) c.args.program.now.program
    (frame_of c.args.frame) (map frame_of c.args.walk.now.stack) (walking_of c.args.walk.now looks) (walking_of c.follow.new.walk (suc looks)) (state_of c.state.result.now)
    (not_true _ _ c.in_ok-insert.ensures.is_new c.if-not-branch.false) c.state.ensures
    (walked c.args.walk.now.visited looks (c.in_ok-insert.ensures.states ∙ ap (λ b. if b then c.args.frame.state ∷ c.args.walk.now.visited else c.args.walk.now.visited) c.if-not-branch.false))) c.follow.result c.follow.ensures
