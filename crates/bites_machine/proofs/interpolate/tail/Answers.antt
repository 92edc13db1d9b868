use Rattle.bites_machine.proofs.Library.{IsCharBoundary-after_ascii}
use Rattle.bites_machine.proofs.interpolate.tail.Goals as goal

pub range_from-requires : goal.range_from-requires
range_from-requires c = λ h. IsCharBoundary-after_ascii c.args.text.now 0 c.utf8.text c.requires.some c.requires.ascii
