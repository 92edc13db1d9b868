use Rattle.std.proofs.Common.{true, eq-eqb}
use Rattle.bites_scan.proofs.ShortlistLemmas.{alike}
use Rattle.bites_scan.proofs.folding.CaselessFolding.agree.Goals as goal

pub returns : goal.returns
returns c same = eq-eqb _ _ (alike true c.args.byte c.args.other c.ranges.byte.fits same)
