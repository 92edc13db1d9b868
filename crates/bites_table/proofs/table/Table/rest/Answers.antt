use Rattle.std.proofs.Common.{arith}
use Rattle.bites_table.proofs.Words.{table_in, IsRest, Rest}
use Rattle.bites_table.specs.Packed.{classes_in}
use Rattle.bites_table.proofs.LayoutLemmas.{if-copied, stay-at}
use Rattle.bites_table.proofs.table.Table.rest.Goals as goal

pub returns : goal.returns
returns c =
    let stays = c.self.inside.stays in
    let own = stay-at _ c.args.self.now stays.skips.items stays.lists.items c.self.view_is c.self.invariant.stays c.args.number c.index.result.now (omega arith) c.index.ensures in
    if-copied (λ (r : Rest). IsRest (table_in c.args.self.now) (classes_in c.args.self.now) c.args.number r) c.as_ref.result c.index.result.now.rest c.as_ref.ensures.value own.rest
