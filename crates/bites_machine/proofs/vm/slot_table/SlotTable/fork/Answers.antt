use Rattle.bites_machine.proofs.Library.{inl, refl}
use Rattle.bites_machine.proofs.tables.UsedLemmas.{copied}
use Rattle.bites_machine.proofs.vm.slot_table.SlotTable.fork.Goals as goal

pub returns-else-pending_len-eq0 : goal.returns-else-pending_len-eq0
returns-else-pending_len-eq0 c =
    copied c.args.place c.args.row c.args.pending_len c.copy.result c.args.self.now c.copy.new.self c.copy.ensures c.requires.used.1.rows
    (c.requires.used.1.wide c.args.row (inl refl))
