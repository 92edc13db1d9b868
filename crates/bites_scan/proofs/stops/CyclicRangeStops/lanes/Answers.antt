use Rattle.std.proofs.Common.{ℕ, ◌+◌, ◌-◌, ◌%◌, ◌^◌, leb, cond}
use Rattle.std.proofs.lemmas.Simd.{zip2_splat, zip2_of_maps, splat_is_map}
use Rattle.bites_scan.proofs.MarkLemmas.{marks_chosen, top_of}
use Rattle.bites_scan.proofs.stops.CyclicRangeStops.lanes.Goals as goal

abbrev less : ℕ → ℕ → ℕ
less a b = (a + (2 ^ 8 - b)) % 2 ^ 8

pub returns : goal.returns
returns c =
    let v = c.args.bytes in
    let s = c.args.self.now in
    let long = c.fits-bytes.0 in
    marks_chosen (λ x. cond (leb (less x s.first) s.more) 255 0) (λ x. leb (less x s.first) s.more) v _ long
    (zip2_of_maps (λ a b. cond (leb a b) 255 0) (λ x. less x s.first) (λ x. s.more) v (zip2_splat less v 16 s.first long) (splat_is_map v 16 s.more long))
    (λ x. top_of (leb (less x s.first) s.more))
