use Rattle.std.proofs.Common.{◌+◌, arith}
use Rattle.bites_scan.specs.LiteralSet.{SomeOccursAt}
use Rattle.bites_scan.proofs.OffsetLemmas.{none_joined}
use Rattle.bites_scan.proofs.literal_set.LiteralSet.search_rest.Goals as goal

pub returns-in-Found : goal.returns-in-Found
returns-in-Found c =
    let found = c.in-Found.ensures c.narrow.at (c.in-Some.base + 16) c.in-Some.ensures.2 in
    record {
      onward = omega (arith, found.onward);
      occurs = found.occurs;
      ends = found.ends;
      none_before = none_joined (SomeOccursAt c.args.self.now c.args.haystack.now) c.args.from c.narrow.at c.in-Found.start c.narrow.at (omega arith) c.narrow.invariant.none found.none_before;
    }

pub returns-in-Tired : goal.returns-in-Tired
returns-in-Tired c =
    let tired = c.in-Tired.ensures c.narrow.at (c.in-Some.base + 16) c.in-Some.ensures.2 in
    record {
      onward = omega (arith, tired.onward);
      within = tired.within;
      none_before = none_joined (SomeOccursAt c.args.self.now c.args.haystack.now) c.args.from c.narrow.at c.in-Tired.offset c.narrow.at (omega arith) c.narrow.invariant.none tired.none_before;
    }

pub narrow-preserved : goal.narrow-preserved
narrow-preserved c = record {
  onward = omega (arith, c.in-Some.ensures.0);
  within = omega (arith, c.in-Some.ensures.1);
  none = none_joined (SomeOccursAt c.args.self.now c.args.haystack.now) c.args.from c.narrow.at (c.in-Some.base + 16) c.narrow.at (omega arith) c.narrow.invariant.none
      (c.in-Nowhere.ensures c.narrow.at (c.in-Some.base + 16) c.in-Some.ensures.2);
}

pub first_marked-requires : goal.first_marked-requires
first_marked-requires c k set = omega (arith, c.in-Some.ensures.1, (c.in-Some.ensures.2.within k set).1)
