use Rattle.std.proofs.Common.{◌≡◌, ◌+◌, get_or, ap, ◌∙◌, arith}
use Rattle.std.specs.Int.{bit_at}
use Rattle.bites_scan.specs.Literal.{folding}
use Rattle.bites_scan.proofs.BucketLemmas.{lane_of, marked_in_all}
use Rattle.bites_scan.proofs.LiteralLemmas.{byte_at}
use Rattle.bites_scan.proofs.fingerprints.Fingerprints.lanes.Goals as goal

pub returns : goal.returns
returns c n known k lt o =
    let f = c.args.self.now in
    let haystack = c.args.haystack.now in
    let at = c.args.at in
    let b = known.bucket in
    let fold = folding n.caseless in
    let place = f.place in
    let window = at + place in
    let u = lane_of f.first haystack _ _ window k (omega arith) lt c.load.ensures c.lanes-first.ensures in
    let v = lane_of f.second haystack _ _ (window + 1) k (omega arith) lt c.load-2.ensures c.lanes-second.ensures in
    let w = lane_of f.third haystack _ _ (window + 2) k (omega arith) lt c.load-3.ensures c.lanes-third.ensures in
    let start : window + k ≡ at + k + place = omega arith in
    let next : window + 1 + k ≡ at + k + (place + 1) = omega arith in
    let last : window + 2 + k ≡ at + k + (place + 2) = omega arith in
    marked_in_all _ _ _ k b u.0 v.0 w.0 lt
    (ap (λ x. bit_at x b) u.1 ∙ known.first _ (c.type_inv.haystack (window + k)).fits (λ h. ap (λ i. fold (get_or haystack i 0)) start ∙ byte_at fold haystack n.bytes (at + k) place o h))
    (ap (λ x. bit_at x b) v.1 ∙ known.second _ (c.type_inv.haystack (window + 1 + k)).fits (λ h. ap (λ i. fold (get_or haystack i 0)) next ∙ byte_at fold haystack n.bytes (at + k) (place + 1) o h))
    (ap (λ x. bit_at x b) w.1 ∙ known.third _ (c.type_inv.haystack (window + 2 + k)).fits (λ h. ap (λ i. fold (get_or haystack i 0)) last ∙ byte_at fold haystack n.bytes (at + k) (place + 2) o h))
