use Rattle.std.proofs.Common.{ℕ, ◌/◌, map, get_or, bit_and, bit_or, ap, ◌∙◌}
use Rattle.std.proofs.lemmas.Simd.{zip2_of_maps, map-map}
use Rattle.std.specs.Int.Bits.{bit_xor}
use Rattle.bites_scan.specs.Halves.{bits, looked_up}
use Rattle.bites_scan.specs.Lanes.{is_marked, marks}
use Rattle.bites_scan.proofs.nibbles.NibblesStops.lanes.Goals as goal

pub returns : goal.returns
returns c =
    let v = c.args.bytes in
    let s = c.args.self.now in
    let low : ℕ → ℕ = λ x. get_or s.low (bit_and x 143) 0 in
    let high : ℕ → ℕ = λ x. get_or s.high (bit_and (bit_xor x 128) 143) 0 in
    let row : ℕ → ℕ = λ x. get_or bits (x / 16) 0 in
    let highs = c.by_low_half-2.ensures ∙ ap (λ l. map (λ x. get_or s.high (bit_and x 143) 0) l) c.turned.ensures ∙ map-map (λ x. get_or s.high (bit_and x 143) 0) (λ x. bit_xor x 128) v in
    ap marks (zip2_of_maps bit_and (λ x. bit_or (low x) (high x)) row v (zip2_of_maps bit_or low high v c.by_low_half.ensures highs) c.by_high_half.ensures)
    ∙ map-map is_marked (looked_up s.low s.high) v
