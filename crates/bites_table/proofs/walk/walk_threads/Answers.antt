use Rattle.bites_table.proofs.Library.{subst, WalksTo}
use Rattle.bites_table.proofs.Words.{takers_by, cuts_off, starts_as, kind_as, walking_of}
use Rattle.bites_table.proofs.StepLemmas.{if_some}
use Rattle.bites_table.proofs.walk.walk_threads.Goals as goal

pub returns-clause-walked : goal.returns-clause-walked
returns-clause-walked c =
    let threads = takers_by (cuts_off (starts_as c.args.list.now.starts)) (kind_as c.args.here.now.before) (kind_as c.args.here.now.after) in
    if_some (λ n walks. subst (λ w. WalksTo threads c.args.program.now.program w (walking_of c.run.new.walk n)) c.in_ok-begin.ensures.begun walks) c.run.result c.run.ensures.walks
