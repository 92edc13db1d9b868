use Rattle.std.proofs.Common.{◌+◌, arith}
use Rattle.bites_scan.specs.LiteralSet.{SomeOccursAt}
use Rattle.bites_scan.proofs.SetLemmas.{some_stands}
use Rattle.bites_scan.proofs.OffsetLemmas.{one_more, none_before, none_of_rest, still_part, still_left}
use Rattle.bites_scan.proofs.literal_set.LiteralSet.first_marked.Goals as goal

pub returns-in-Some : goal.returns-in-Some
returns-in-Some c from end marks =
    let lane = c.lowest-lane.result in
    let within = marks.within lane (c.marked.invariant.part lane c.lowest-lane.ensures.set) in
    record {
      onward = within.0;
      occurs = some_stands c.args.self.now c.args.haystack.now (c.args.base + lane) c.in-Some.end c.in-Some.ensures.some;
      ends = c.in-Some.ensures.some;
      none_before = none_before (SomeOccursAt c.args.self.now c.args.haystack.now) c.args.base from end c.args.mask c.marked.left marks c.marked.invariant.covers lane
          within.1 c.lowest-lane.ensures.below;
    }

pub returns-then-are_too_many : goal.returns-then-are_too_many
returns-then-are_too_many c from end marks =
    let lane = c.lowest-lane.result in
    let set = c.marked.invariant.part lane c.lowest-lane.ensures.set in
    let within = marks.within lane set in
    let Occurs = SomeOccursAt c.args.self.now c.args.haystack.now in
    let before = none_before Occurs c.args.base from end c.args.mask c.marked.left marks c.marked.invariant.covers lane within.1 c.lowest-lane.ensures.below in
    record {
      onward = omega (arith, within.0);
      within = omega (arith, c.requires lane set);
      none_before = one_more Occurs from (c.args.base + lane) before (c.end_of_one.ensures.none c.in_default.is);
    }

pub marked-preserved : goal.marked-preserved
marked-preserved c =
    let lane = c.lowest-lane.result in
    record {
      small = omega arith;
      part = still_part c.marked.left c.without-left.result lane c.without-left.ensures.kept c.args.mask (omega arith) c.lowest-lane.ensures.set c.marked.invariant.part;
      covers = still_left (SomeOccursAt c.args.self.now c.args.haystack.now) c.marked.left c.without-left.result lane c.args.mask c.marked.invariant.small c.without-left.ensures.kept c.args.base
          (c.end_of_one.ensures.none c.in_default.is) c.marked.invariant.covers;
    }

pub returns : goal.returns
returns c from end marks = none_of_rest (SomeOccursAt c.args.self.now c.args.haystack.now) c.args.base from end c.args.mask c.marked.left marks c.marked.invariant.covers c.marked-test.false
