use Rattle.std.proofs.Common.{◌≡◌, ℕ, ◌+◌, ◌<◌, ◌^◌}
use Rattle.std.specs.Int.{bit_at}
use Rattle.bites_scan.specs.LiteralSet.{SomeOccursAt}
use Rattle.bites_scan.proofs.literal_set.LiteralSet.first_marked.Given as goal

abbrev pub invariant-marked : goal.invariant-marked
invariant-marked l = record {
  small : l.left < 2 ^ 64;
  part : (k : ℕ) → bit_at l.left k ≡ 1 → bit_at l.mask k ≡ 1;
  covers : (k : ℕ) → bit_at l.mask k ≡ 1 → SomeOccursAt l.self l.haystack (l.base + k) → bit_at l.left k ≡ 1;
}

abbrev pub decreases-marked : goal.decreases-marked
decreases-marked l = l.left
