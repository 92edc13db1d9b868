use Rattle.std.proofs.Common.{ℕ, arith}
use Rattle.std.proofs.lemmas.Simd.{get_or-replicate}
use Rattle.bites_literals.proofs.AllowedBytesLemmas.{zero_everywhere}
use Rattle.bites_literals.proofs.allowed_bytes.AllowedBytes.none.Goals as goal

pub invariant_of-result : goal.invariant_of-result
invariant_of-result c e k byte less within = (
  λ h. absurd (zero_everywhere 256 k byte h),
  λ h. absurd (omega (arith, get_or-replicate {A = ℕ} 64 k 255 0 less, get_or-replicate {A = ℕ} 64 k 0 0 less, h.0, h.1)),
)

pub returns : goal.returns
returns c k b e = zero_everywhere 256 k b e
