use Rattle.bites_table.proofs.PieceKinds.{kind_before}
use Rattle.bites_table.proofs.kind_is_passed.Goals as goal

pub returns : goal.returns
returns c = kind_before
