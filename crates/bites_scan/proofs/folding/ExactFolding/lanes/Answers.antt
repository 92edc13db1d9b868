use Rattle.bites_scan.proofs.LiteralLemmas.{equal_lane}
use Rattle.bites_scan.proofs.folding.ExactFolding.lanes.Goals as goal

pub returns : goal.returns
returns c k h e = equal_lane c.args.bytes c.args.byte k c.fits-bytes.0 h e
