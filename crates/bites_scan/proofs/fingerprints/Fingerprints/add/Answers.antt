use Rattle.std.proofs.Common.{◌+◌}
use Rattle.bites_scan.proofs.BucketLemmas.{holds_still}
use Rattle.bites_scan.proofs.fingerprints.Fingerprints.add.Goals as goal

pub returns-clause-added : goal.returns-clause-added
returns-clause-added c = record {
  bucket = c.args.bucket;
  first = c.add.ensures.holds;
  second = c.add-2.ensures.holds;
  third = c.add-3.ensures.holds;
}

pub returns-clause-kept : goal.returns-clause-kept
returns-clause-kept c n known = record {
  bucket = known.bucket;
  first = holds_still _ _ known.bucket n c.args.self.now.place c.add.ensures.stays known.first;
  second = holds_still _ _ known.bucket n (c.args.self.now.place + 1) c.add-2.ensures.stays known.second;
  third = holds_still _ _ known.bucket n (c.args.self.now.place + 2) c.add-3.ensures.stays known.third;
}
