use Rattle.std.proofs.Common.{rules, refl}
use Rattle.bites_table.proofs.Words.{list_of, outcome_of}
use Rattle.bites_table.proofs.LaidOutLemmas.{goes-so, do-nothing}
use Rattle.bites_table.proofs.table.layout.does_nothing.Goals as goal

pub returns-then-not-is_dead : goal.returns-then-not-is_dead
returns-then-not-is_dead c kept =
    let o = outcome_of c.args.outcome.now in
    let l = list_of c.args.next.now in
    do-nothing o l (goes-so o.hit l (search rules) (search rules)) c.args.next.now.threads.now refl (c.are_kept.ensures kept)
