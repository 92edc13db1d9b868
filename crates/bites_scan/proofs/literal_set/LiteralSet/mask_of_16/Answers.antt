use Rattle.std.proofs.Common.{arith}
use Rattle.bites_scan.specs.LiteralSet.{SomeOccursAt}
use Rattle.bites_scan.proofs.OffsetLemmas.{marks_from}
use Rattle.bites_scan.proofs.SetLemmas.{marks_of}
use Rattle.bites_scan.proofs.literal_set.LiteralSet.mask_of_16.Goals as goal

pub returns : goal.returns
returns c =
    let set = c.self.inside in let base = c.min-base.result in
    let marks = marks_of c.args.self.now c.args.haystack.now set.literals.items c.self.view_is set.fingerprints set.shortlist set.known base 16 c.mask_of_16-mask.result
    c.mask_of_16-mask.ensures.within c.mask_of_16-mask.ensures.covers in (
      omega arith,
      omega arith,
      marks_from (SomeOccursAt c.args.self.now c.args.haystack.now) base c.args.at c.mask_of_16-mask.result c.from_bit.result (omega arith)
          c.mask_of_16-mask.ensures.within (λ k h o. marks.covers k (omega arith) (omega arith) o) c.from_bit.ensures.below c.from_bit.ensures.kept,
    )
