use Rattle.std.proofs.Common.{◌≡◌, length, get_or, bit_and, ap, sym, ◌∙◌, arith}
use Rattle.bites_scan.proofs.BucketLemmas.{has, has_exact, has_caseless, stays_in}
use Rattle.std.proofs.lemmas.Nat.{and_mask}
use Rattle.bites_scan.proofs.buckets.Buckets.add.Goals as goal

pub returns-then-place-bytes-clause-holds : goal.returns-then-place-bytes-clause-holds
returns-then-place-bytes-clause-holds c x lt may =
    has c.mark_all.new.cells c.mark_all-then-place-bytes.new.cells c.args.bucket x (c.mark_all.ensures.set (bit_and x 15) (omega (arith, and_mask x 4))) (c.mark_all-then-place-bytes.ensures.set _ (omega arith))

pub returns-then-place-bytes-clause-stays : goal.returns-then-place-bytes-clause-stays
returns-then-place-bytes-clause-stays c = stays_in c.args.self.now _ c.mark_all.ensures.stays c.mark_all-then-place-bytes.ensures.stays

pub returns-then-is_caseless-clause-holds : goal.returns-then-is_caseless-clause-holds
returns-then-is_caseless-clause-holds c =
    let n = c.args.literal.now in
    let y = get_or c.bytes-bytes.result.now c.args.place 0 in
    let long : length c.bytes-bytes.result.now ≡ length n.bytes = ap length c.bytes-bytes.ensures in
    let same : y ≡ get_or n.bytes c.args.place 0 = ap (λ l. get_or l c.args.place 0) c.bytes-bytes.ensures in
    has_caseless c.mark.new.cells c.mark-then-is_caseless.new.cells c.args.bucket n c.args.place y (omega arith) same (omega arith) c.mark.ensures.set
    (c.mark-then-is_caseless.ensures.stays _ _ c.mark-2.ensures.set) (sym c.is_caseless.ensures ∙ c.if-is_caseless.true) c.mark-then-is_caseless.ensures.set

pub returns-then-is_caseless-clause-stays : goal.returns-then-is_caseless-clause-stays
returns-then-is_caseless-clause-stays c = stays_in c.args.self.now _ c.mark.ensures.stays (λ k b e. c.mark-then-is_caseless.ensures.stays k b (c.mark-2.ensures.stays k b e))

pub returns-else-is_caseless-clause-holds : goal.returns-else-is_caseless-clause-holds
returns-else-is_caseless-clause-holds c =
    let n = c.args.literal.now in
    let y = get_or c.bytes-bytes.result.now c.args.place 0 in
    let long : length c.bytes-bytes.result.now ≡ length n.bytes = ap length c.bytes-bytes.ensures in
    let same : y ≡ get_or n.bytes c.args.place 0 = ap (λ l. get_or l c.args.place 0) c.bytes-bytes.ensures in
    has_exact c.mark.new.cells c.mark-2.new.cells c.args.bucket n c.args.place y (omega arith) same (omega arith) c.mark.ensures.set c.mark-2.ensures.set (sym c.is_caseless.ensures ∙ c.if-is_caseless.false)

pub returns-else-is_caseless-clause-stays : goal.returns-else-is_caseless-clause-stays
returns-else-is_caseless-clause-stays c = stays_in c.args.self.now _ c.mark.ensures.stays c.mark-2.ensures.stays
