use Rattle.std.proofs.Common.{eqb, cond}
use Rattle.std.proofs.lemmas.Simd.{zip2_splat}
use Rattle.bites_scan.proofs.MarkLemmas.{marks_chosen, top_of}
use Rattle.bites_scan.proofs.stops.OneByteStops.lanes.Goals as goal

pub returns : goal.returns
returns c =
    let v = c.args.bytes in
    let byte = c.args.self.now.byte in
    marks_chosen (λ x. cond (eqb x byte) 255 0) (λ x. eqb x byte) v _ c.fits-bytes.0 (zip2_splat (λ a b. cond (eqb a b) 255 0) v 16 byte c.fits-bytes.0) (λ x. top_of (eqb x byte))
