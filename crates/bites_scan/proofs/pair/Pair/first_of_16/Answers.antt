use Rattle.std.proofs.Common.{◌+◌, arith}
use Rattle.bites_scan.specs.Lanes.{marks as marks_of}
use Rattle.bites_scan.specs.Literal.{OccursAt}
use Rattle.bites_scan.proofs.OffsetLemmas.{bit_below, bit_of_mark, marks_from}
use Rattle.bites_scan.proofs.pair.Pair.first_of_16.Goals as goal

pub first_marked-requires : goal.first_marked-requires
first_marked-requires g c k set =
    let marks = marks_from (OccursAt g.F.Folding.fold c.args.haystack.now c.args.self.now.needle.now) c.args.base c.args.at c.mask_of.result c.from_bit-mask.result c.requires.behind
    (λ k set. bit_below 16 c.mask_of.result k c.mask_of.ensures.small set)
    (λ k h o. bit_of_mark (marks_of c.lanes.result) c.mask_of.result k c.mask_of.ensures.bits (c.lanes.ensures k h o)) c.from_bit-mask.ensures.below c.from_bit-mask.ensures.kept in
    let within = marks.within k set in
    omega (arith, within.1)

pub returns : goal.returns
returns g c =
    c.first_marked.ensures c.args.at (c.args.base + 16)
    (marks_from (OccursAt g.F.Folding.fold c.args.haystack.now c.args.self.now.needle.now) c.args.base c.args.at c.mask_of.result c.from_bit-mask.result c.requires.behind
    (λ k set. bit_below 16 c.mask_of.result k c.mask_of.ensures.small set)
    (λ k h o. bit_of_mark (marks_of c.lanes.result) c.mask_of.result k c.mask_of.ensures.bits (c.lanes.ensures k h o)) c.from_bit-mask.ensures.below c.from_bit-mask.ensures.kept)
