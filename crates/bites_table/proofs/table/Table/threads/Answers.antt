use Rattle.bites_table.proofs.Library.{common_steps, ◌≡◌, ◌<◌, length, ap, subst, arith, slice_get_read, refl}
use Rattle.bites_table.proofs.Words.{Packed, lists_in, IsEntry}
use Rattle.bites_table.proofs.LayoutLemmas.{among-range}
use Rattle.bites_table.proofs.table.Table.threads.Goals as goal

pub part_of-requires : goal.part_of-requires
part_of-requires c =
    let within : c.args.number < length c.self.inside.lists.items = let n = ap lists_in c.self.view_is in let m = c.self.invariant.count in omega arith in
    let entry : IsEntry c.args.self.now c.self.inside.threads.items c.args.number c.index.result.now =
    subst (λ (x : Packed). IsEntry x c.self.inside.threads.items c.args.number c.index.result.now) c.self.view_is
    (c.self.invariant.entries c.args.number c.index.result.now (slice_get_read c.self.inside.lists.items _ c.args.number c.index.result.now refl within c.index.ensures)) in
    let value : c.deref.result.now ≡ c.self.inside.threads.items = c.deref.ensures.value in
    rw value entry.part

pub returns-clause-threads : goal.returns-clause-threads
returns-clause-threads c = grind (arith, common_steps, slice_get_read)

pub returns-clause-held : goal.returns-clause-held
returns-clause-held c t is = grind (arith, common_steps, among-range)
