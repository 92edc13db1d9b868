use Rattle.std.proofs.Common.{◌+◌, arith}
use Rattle.bites_scan.specs.Literal.{OccursAt}
use Rattle.bites_scan.proofs.OffsetLemmas.{bit_below, bit_of_64, marks_64}
use Rattle.bites_scan.proofs.pair.Pair.first_of_64.Goals as goal

pub first_marked-requires : goal.first_marked-requires
first_marked-requires g c k set = omega (arith, bit_below 64 c.mask_of_four-mask.result k (omega arith) set)

pub returns : goal.returns
returns g c =
    c.first_marked.ensures c.args.at (c.args.at + 64)
    (marks_64 (OccursAt g.F.Folding.fold c.args.haystack.now c.args.self.now.needle.now) c.args.at c.mask_of_four-mask.result (omega arith)
    (bit_of_64 (OccursAt g.F.Folding.fold c.args.haystack.now c.args.self.now.needle.now) _ _ _ _ c.mask_of_four-mask.result c.args.at (omega arith) (omega arith) (omega arith)
    c.mask_of_four-mask.ensures c.lanes-a.ensures c.lanes-b.ensures c.lanes-c.ensures c.lanes-d.ensures))
