use Rattle.std.proofs.Common.{ℕ, ◌/◌, ◌^◌, refl, arith}
use Rattle.std.proofs.lemmas.Simd.{zip2_splat}
use Rattle.bites_scan.proofs.HalfLemmas.{indices, looked}
use Rattle.bites_scan.proofs.buckets.by_high_half.Goals as goal

abbrev half : ℕ → ℕ
half x = x / 16

abbrev down : ℕ → ℕ → ℕ
down a b = a / 2 ^ b

pub swizzle : goal.swizzle
swizzle c = indices half c.args.bytes _ refl c.fits-bytes (zip2_splat down c.args.bytes 16 4 c.fits-bytes.0)

pub returns : goal.returns
returns c = looked half c.args.bytes _ c.args.cells.now (omega arith) c.fits-bytes (zip2_splat down c.args.bytes 16 4 c.fits-bytes.0)
