use Rattle.std.proofs.Common.{◌+◌, sym, ◌∙◌, arith}
use Rattle.std.proofs.lemmas.Nat.Bits.{bit_at-zero}
use Rattle.bites_scan.specs.Literal.{NeedleOccursAt}
use Rattle.bites_scan.proofs.OffsetLemmas.{bit_below, bit_of_64, quiet_64}
use Rattle.bites_scan.proofs.fingerprints.Fingerprints.mask_of_64.Goals as goal

pub returns-then-mask_of-eq0-clause-within : goal.returns-then-mask_of-eq0-clause-within
returns-then-mask_of-eq0-clause-within c k set = absurd (omega (arith, set, bit_at-zero k))

pub returns-then-mask_of-eq0-clause-covers : goal.returns-then-mask_of-eq0-clause-covers
returns-then-mask_of-eq0-clause-covers c n known k h o =
    let all = c.either-3.ensures (sym c.mask_of.ensures.bits ∙ c.if-mask_of-eq0.true) in
    let ab = c.either.ensures all.0 in
    let cd = c.either-2.ensures all.1 in
    absurd (quiet_64 (λ at. NeedleOccursAt c.args.haystack.now at n) _ _ _ _ c.args.at ab.0 ab.1 cd.0 cd.1
    (c.lanes-a.ensures n known) (c.lanes-b.ensures n known) (c.lanes-c.ensures n known) (c.lanes-d.ensures n known) (c.args.at + k) (omega arith) (omega arith) o)

pub returns-clause-within : goal.returns-clause-within
returns-clause-within c k set = bit_below 64 c.mask_of_four.result k (omega arith) set

pub returns-clause-covers : goal.returns-clause-covers
returns-clause-covers c n known = bit_of_64 (λ at. NeedleOccursAt c.args.haystack.now at n) _ _ _ _ c.mask_of_four.result c.args.at (omega arith) (omega arith) (omega arith) c.mask_of_four.ensures
    (c.lanes-a.ensures n known) (c.lanes-b.ensures n known) (c.lanes-c.ensures n known) (c.lanes-d.ensures n known)
