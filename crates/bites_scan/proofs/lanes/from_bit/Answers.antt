use Rattle.std.proofs.Common.{arith}
use Rattle.bites_scan.proofs.OffsetLemmas.{bit_cleared, bit_kept}
use Rattle.bites_scan.proofs.lanes.from_bit.Goals as goal

pub returns-clause-below : goal.returns-clause-below
returns-clause-below c k h = bit_cleared c.args.mask c.args.bit c.requires k h

pub returns-clause-kept : goal.returns-clause-kept
returns-clause-kept c k h = bit_kept c.args.mask c.args.bit c.requires (omega arith) k h
