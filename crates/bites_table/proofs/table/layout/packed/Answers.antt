use Rattle.std.proofs.Common.{◌∙◌, ap, option_map}
use Rattle.bites_table.specs.Stored.{cell_of}
use Rattle.bites_table.proofs.table.layout.packed.Goals as goal

pub returns-in-Some-known : goal.returns-in-Some-known
returns-in-Some-known c x w n k fits e = c.in-Some-known.ensures x w n k fits (e ∙ ap (option_map cell_of) c.in-Some.is)
