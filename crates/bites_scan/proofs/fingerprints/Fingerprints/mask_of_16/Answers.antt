use Rattle.bites_scan.specs.Lanes.{marks}
use Rattle.bites_scan.proofs.OffsetLemmas.{bit_below, bit_of_mark}
use Rattle.bites_scan.proofs.fingerprints.Fingerprints.mask_of_16.Goals as goal

pub returns-clause-within : goal.returns-clause-within
returns-clause-within c k set = bit_below 16 c.mask_of.result k c.mask_of.ensures.small set

pub returns-clause-covers : goal.returns-clause-covers
returns-clause-covers c n known k h o = bit_of_mark (marks c.lanes.result) c.mask_of.result k c.mask_of.ensures.bits (c.lanes.ensures n known k h o)
