use Rattle.bites_scan.proofs.LiteralLemmas.{both_marked}
use Rattle.bites_scan.proofs.pair.both.Goals as goal

pub returns : goal.returns
returns c k h ea eb = both_marked c.args.a c.args.b k c.fits-a.0 c.fits-b.0 h ea eb
