use Rattle.std.proofs.Common.{◌+◌, sym, ◌∙◌, arith}
use Rattle.bites_scan.specs.Literal.{OccursAt}
use Rattle.bites_scan.proofs.OffsetLemmas.{none_joined, quiet_64}
use Rattle.bites_scan.proofs.pair.Pair.quiet_until.Goals as goal

pub wide-preserved : goal.wide-preserved
wide-preserved g c =
    let Occurs = OccursAt g.F.Folding.fold c.args.haystack.now c.args.self.now.needle.now in
    let all = c.either-in-wide-2.ensures (sym c.mask_of.ensures.bits ∙ c.if-mask_of-ne0.false) in
    let ab = c.either.ensures all.0 in
    let cd = c.either-in-wide.ensures all.1 in
    record {
      onward = omega arith;
      within = omega arith;
      none = none_joined Occurs c.args.from c.wide.at (c.wide.at + 64) c.wide.at (omega arith) c.wide.invariant.none
          (quiet_64 Occurs _ _ _ _ c.wide.at ab.0 ab.1 cd.0 cd.1 c.lanes-a.ensures c.lanes-b.ensures c.lanes-c.ensures c.lanes-d.ensures);
    }
