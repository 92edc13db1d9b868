use Rattle.std.proofs.Common.{◌≡◌, ℕ, ◌<◌, get_or}
use Rattle.std.specs.Int.{bit_at}
use Rattle.bites_scan.proofs.buckets.mark_all.Given as goal

abbrev pub invariant-loop-at : goal.invariant-loop-at
invariant-loop-at l = record {
  set : (k : ℕ) → k < l.at → bit_at (get_or l.cells k 0) l.bucket ≡ 1;
  stays : (k b : ℕ) → bit_at (get_or l.initial.cells k 0) b ≡ 1 → bit_at (get_or l.cells k 0) b ≡ 1;
}
