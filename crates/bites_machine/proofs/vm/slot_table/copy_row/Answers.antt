use Rattle.bites_machine.proofs.Library.{arith, length-drop, length-take-le}
use Rattle.std.proofs.lemmas.Slice.{put_mid-paste}
use Rattle.bites_machine.proofs.tables.RowLemmas.{copied_part, part_anew, length-with_pending}
use Rattle.bites_machine.proofs.vm.slot_table.copy_row.Goals as goal

pub returns : goal.returns
returns c = grind (arith, length-with_pending, length-take-le, length-drop, copied_part, put_mid-paste, part_anew)
