use Rattle.std.proofs.Common.{◌+◌, refl, arith}
use Rattle.std.proofs.lemmas.Bool.{iff_false}
use Rattle.bites_scan.specs.Literal.{OccursAt}
use Rattle.bites_scan.proofs.OffsetLemmas.{one_more, none_before, none_of_rest, still_part, still_left}
use Rattle.bites_scan.proofs.pair.Pair.first_marked.Goals as goal

pub occurs_at-requires : goal.occurs_at-requires
occurs_at-requires g c = c.requires c.lowest-lane.result (c.marked.invariant.part c.lowest-lane.result c.lowest-lane.ensures.set)

pub returns-then-occurs_at : goal.returns-then-occurs_at
returns-then-occurs_at g c start end marks =
    let lane = c.lowest-lane.result in
    let within = marks.within lane (c.marked.invariant.part lane c.lowest-lane.ensures.set) in
    record {
      onward = within.0;
      occurs = c.occurs_at.ensures.0 c.if-occurs_at.true;
      ends = refl;
      none_before = none_before (OccursAt g.F.Folding.fold c.args.haystack.now c.args.self.now.needle.now) c.args.base start end c.args.mask c.marked.left marks c.marked.invariant.covers lane
          within.1 c.lowest-lane.ensures.below;
    }

pub returns-then-are_too_many : goal.returns-then-are_too_many
returns-then-are_too_many g c start end marks =
    let lane = c.lowest-lane.result in
    let set = c.marked.invariant.part lane c.lowest-lane.ensures.set in
    let within = marks.within lane set in
    let Occurs = OccursAt g.F.Folding.fold c.args.haystack.now c.args.self.now.needle.now in
    let before = none_before Occurs c.args.base start end c.args.mask c.marked.left marks c.marked.invariant.covers lane within.1 c.lowest-lane.ensures.below in
    record {
      onward = omega (arith, within.0);
      within = omega (arith, c.requires lane set, c.args.self.now.first_within);
      none_before = one_more Occurs start (c.args.base + lane) before (iff_false c.occurs_at.ensures c.if-occurs_at.false);
    }

pub marked-preserved : goal.marked-preserved
marked-preserved g c =
    let lane = c.lowest-lane.result in
    record {
      small = omega arith;
      part = still_part c.marked.left c.without-left.result lane c.without-left.ensures.kept c.args.mask (omega arith) c.lowest-lane.ensures.set c.marked.invariant.part;
      covers = still_left (OccursAt g.F.Folding.fold c.args.haystack.now c.args.self.now.needle.now) c.marked.left c.without-left.result lane c.args.mask c.marked.invariant.small c.without-left.ensures.kept c.args.base
          (iff_false c.occurs_at.ensures c.if-occurs_at.false) c.marked.invariant.covers;
    }

pub returns : goal.returns
returns g c start end marks = none_of_rest (OccursAt g.F.Folding.fold c.args.haystack.now c.args.self.now.needle.now) c.args.base start end c.args.mask c.marked.left marks c.marked.invariant.covers c.marked-test.false
