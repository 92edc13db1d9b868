use Rattle.std.proofs.Common.{ℕ, ◌/◌, get_or, bit_and}
use Rattle.std.proofs.lemmas.Simd.{zip2_of_maps}
use Rattle.bites_scan.proofs.buckets.Buckets.lanes.Goals as goal

pub returns : goal.returns
returns c =
    let s = c.args.self.now in
    let low : ℕ → ℕ = λ x. get_or s.low (bit_and x 15) 0 in
    let high : ℕ → ℕ = λ x. get_or s.high (x / 16) 0 in
    zip2_of_maps bit_and low high c.args.bytes c.by_low_half.ensures c.by_high_half.ensures
