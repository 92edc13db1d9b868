use Rattle.bites_table.proofs.Library.{subst, WalksTo}
use Rattle.bites_table.proofs.Words.{takers_by, cuts_off, starts_as, kind_as, walking_of}
use Rattle.bites_table.proofs.StepLemmas.{if_both}
use Rattle.bites_table.proofs.walk.walk_list.Goals as goal

pub returns-clause-walked : goal.returns-clause-walked
returns-clause-walked c =
    let threads = takers_by (cuts_off (starts_as c.args.list.now.starts)) (kind_as c.args.list.now.kind) (kind_as c.args.after) in
    if_both (λ n walks over. record {
      walks = subst (λ w. WalksTo threads c.args.program.now.program w (walking_of c.walk_on.new.walk n)) c.in_ok-begin.ensures.begun walks;
      over = over;
    }) c.walk_on.result c.walk_on.ensures.walks c.walk_on.ensures.over
