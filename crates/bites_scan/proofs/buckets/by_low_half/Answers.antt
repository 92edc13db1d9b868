use Rattle.std.proofs.Common.{ℕ, bit_and, refl, arith}
use Rattle.std.proofs.lemmas.Simd.{zip2_splat}
use Rattle.bites_scan.proofs.HalfLemmas.{indices, looked}
use Rattle.bites_scan.proofs.buckets.by_low_half.Goals as goal

abbrev half : ℕ → ℕ
half x = bit_and x 15

pub swizzle : goal.swizzle
swizzle c = indices half c.args.bytes _ refl c.fits-bytes (zip2_splat bit_and c.args.bytes 16 15 c.fits-bytes.0)

pub returns : goal.returns
returns c = looked half c.args.bytes _ c.args.cells.now (omega arith) c.fits-bytes (zip2_splat bit_and c.args.bytes 16 15 c.fits-bytes.0)
