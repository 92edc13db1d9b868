use Rattle.std.proofs.Common.{arith}
use Rattle.bites_scan.proofs.MarkLemmas.{highest_bit}
use Rattle.bites_scan.proofs.lanes.highest.Goals as goal

pub returns-clause-set : goal.returns-clause-set
returns-clause-set c = (highest_bit c.args.mask (omega arith) c.ranges.mask.fits).0

pub returns-clause-above : goal.returns-clause-above
returns-clause-above c = (highest_bit c.args.mask (omega arith) c.ranges.mask.fits).1
