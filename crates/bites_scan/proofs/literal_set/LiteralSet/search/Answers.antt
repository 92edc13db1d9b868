use Rattle.std.proofs.Common.{◌+◌, arith}
use Rattle.bites_scan.specs.LiteralSet.{SomeOccursAt}
use Rattle.bites_scan.proofs.OffsetLemmas.{none_joined}
use Rattle.bites_scan.proofs.literal_set.LiteralSet.search.Goals as goal

pub returns-in-Found : goal.returns-in-Found
returns-in-Found c =
    let found = c.in-Found.ensures c.wide.at (c.wide.at + 64) c.in-Some.ensures.1 in
    record {
      onward = omega (arith, found.onward);
      occurs = found.occurs;
      ends = found.ends;
      none_before = none_joined (SomeOccursAt c.args.self.now c.args.haystack.now) c.args.from c.wide.at c.in-Found.start c.wide.at (omega arith) c.wide.invariant.none found.none_before;
    }

pub returns-in-Tired : goal.returns-in-Tired
returns-in-Tired c =
    let tired = c.in-Tired.ensures c.wide.at (c.wide.at + 64) c.in-Some.ensures.1 in
    record {
      onward = omega (arith, tired.onward);
      within = tired.within;
      none_before = none_joined (SomeOccursAt c.args.self.now c.args.haystack.now) c.args.from c.wide.at c.in-Tired.offset c.wide.at (omega arith) c.wide.invariant.none tired.none_before;
    }

pub wide-preserved : goal.wide-preserved
wide-preserved c = record {
  onward = omega arith;
  within = omega (arith, c.in-Some.ensures.0);
  none = none_joined (SomeOccursAt c.args.self.now c.args.haystack.now) c.args.from c.wide.at (c.wide.at + 64) c.wide.at (omega arith) c.wide.invariant.none (c.in-Nowhere.ensures c.wide.at (c.wide.at + 64) c.in-Some.ensures.1);
}

pub first_marked-requires : goal.first_marked-requires
first_marked-requires c k set = omega (arith, c.in-Some.ensures.0, (c.in-Some.ensures.1.within k set).1)
