use Rattle.std.proofs.Common.{w64}
use Rattle.std.proofs.lemmas.Nat.Bits.{bit_at_clear_other}
use Rattle.bites_scan.proofs.OffsetLemmas.{cleared_smaller}
use Rattle.bites_scan.proofs.lanes.without.Goals as goal

pub returns-clause-smaller : goal.returns-clause-smaller
returns-clause-smaller c = cleared_smaller c.args.mask c.args.bit c.requires.bound c.requires.set

pub returns-clause-kept : goal.returns-clause-kept
returns-clause-kept c k h d = bit_at_clear_other w64 c.args.mask c.args.bit c.requires.bound k h d
