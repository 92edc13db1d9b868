use Rattle.std.proofs.Common.{◌∙◌, sym}
use Rattle.bites_scan.proofs.MarkLemmas.{quiet_either}
use Rattle.bites_scan.proofs.lanes.either.Goals as goal

pub returns : goal.returns
returns c = quiet_either c.args.a c.args.b (c.fits-a.0 ∙ sym c.fits-b.0)
