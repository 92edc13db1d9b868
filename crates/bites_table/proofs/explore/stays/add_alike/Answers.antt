use Rattle.std.proofs.Common.{◌≡◌, ◌++◌, ◌∷◌, [], reverse, rules}
use Rattle.bites_table.proofs.Words.{list_at, table_of, program_in}
use Rattle.bites_table.proofs.StayLemmas.{walk-push}
use Rattle.bites_table.proofs.explore.stays.add_alike.Goals as goal

pub returns-clause-kinds : goal.returns-clause-kinds
returns-clause-kinds c all =
    let p = program_in c.args.context.now in
    let l = list_at (table_of c.args.graph.now) c.args.number in
    let pushed : c.push.new.self.items ≡ c.args.kinds.now.items ++ c.args.kind ∷ [] = search rules in
    walk-push p l c.args.kinds.now.items c.args.kind c.push.new.self.items (reverse c.args.memory.now.seen.items) c.args.walked.looks pushed all (c.is_walked_so.ensures.walks (search rules))
