use Rattle.std.proofs.lemmas.Simd.{zip2_splat}
use Rattle.std.specs.Int.Bits.{bit_xor}
use Rattle.bites_scan.proofs.nibbles.turned.Goals as goal

pub returns : goal.returns
returns c = zip2_splat bit_xor c.args.bytes 16 128 c.fits-bytes.0
