use Rattle.std.proofs.Common.{◌≡◌, sym, subst}
use Rattle.bites_table.proofs.Words.{ThreadList, list_at, table_of, registers_at, kind_as, list_of, numbered, IsWalked, program_in}
use Rattle.bites_table.proofs.GraphLemmas.{list-there}
use Rattle.bites_table.proofs.explore.stays.walk_again.Goals as goal

pub returns-clause-walked : goal.returns-clause-walked
returns-clause-walked c =
    let g = c.args.graph.now in
    let list : list_at (table_of g) c.args.number ≡ list_of c.list-list.result =
    list-there g c.args.number (numbered c.list-list.result (registers_at g c.args.number)) c.list-list.ensures in
    subst (λ (l : ThreadList). IsWalked (program_in c.args.context.now) l (kind_as c.args.kind) c.walk_list.new.walk c.in_ok-looks.looks) (sym list) c.in_ok-looks.ensures.walked
