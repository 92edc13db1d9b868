use Rattle.std.proofs.Common.{◌∙◌, arith}
use Rattle.bites_scan.specs.Lanes.{marks}
use Rattle.bites_scan.proofs.MarkLemmas.{masked, mask_small, length_marks}
use Rattle.bites_scan.proofs.lanes.mask_of.Goals as goal

pub returns-clause-bits : goal.returns-clause-bits
returns-clause-bits c = masked c.args.lanes c.fits-lanes.0

pub returns-clause-small : goal.returns-clause-small
returns-clause-small c = omega (arith, masked c.args.lanes c.fits-lanes.0, mask_small (marks c.args.lanes) (length_marks c.args.lanes ∙ c.fits-lanes.0))
