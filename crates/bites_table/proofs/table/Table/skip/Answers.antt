use Rattle.std.proofs.Common.{arith}
use Rattle.bites_table.proofs.LayoutLemmas.{stay-at}
use Rattle.bites_table.proofs.table.Table.skip.Goals as goal
use Rattle.bites_table.proofs.Library.{slice_get_read, refl}

pub returns : goal.returns
returns c =
    let stays = c.self.inside.stays in
    let skip = c.in_ok-skip.field-0 in
    let own = stay-at _ c.args.self.now stays.skips.items stays.lists.items c.self.view_is c.self.invariant.stays c.args.number c.index.result.now (omega arith) c.index.ensures in
    own.skip skip c.index-2.result.now c.in_ok-skip.was (slice_get_read stays.skips.items _ skip c.index-2.result.now refl (own.within skip c.in_ok-skip.was) c.index-2.ensures)
