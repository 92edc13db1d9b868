use Rattle.std.proofs.Common.{ℕ, eqb, cond, ◌||◌, bit_or}
use Rattle.std.proofs.lemmas.Simd.{zip2_splat, zip2_of_maps}
use Rattle.bites_scan.proofs.MarkLemmas.{marks_chosen, top_of_three}
use Rattle.bites_scan.proofs.stops.ThreeBytesStops.lanes.Goals as goal

abbrev is : ℕ → ℕ → ℕ
is a x = cond (eqb x a) 255 0

abbrev test : ℕ → ℕ → ℕ
test a b = cond (eqb a b) 255 0

pub returns : goal.returns
returns c =
    let v = c.args.bytes in
    let s = c.args.self.now in
    let long = c.fits-bytes.0 in
    marks_chosen (λ x. bit_or (bit_or (is s.a x) (is s.b x)) (is s.c x)) (λ x. eqb x s.a || eqb x s.b || eqb x s.c) v _ long
    (zip2_of_maps bit_or (λ x. bit_or (is s.a x) (is s.b x)) (is s.c) v
    (zip2_of_maps bit_or (is s.a) (is s.b) v (zip2_splat test v 16 s.a long) (zip2_splat test v 16 s.b long)) (zip2_splat test v 16 s.c long))
    (λ x. top_of_three (eqb x s.a) (eqb x s.b) (eqb x s.c))
