use Rattle.bites_scan.proofs.LiteralLemmas.{caseless_lane}
use Rattle.bites_scan.proofs.folding.CaselessFolding.lanes.Goals as goal

pub returns : goal.returns
returns c k h e = caseless_lane c.args.bytes c.args.byte k c.fits-bytes.0 c.fits-bytes.1 c.ranges.byte.fits h e
