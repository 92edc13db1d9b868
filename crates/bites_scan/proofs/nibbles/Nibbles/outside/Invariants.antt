use Rattle.std.proofs.Common.{◌≡◌, ℕ, ◌+◌, ◌<◌, length, get_or, not, false}
use Rattle.bites_scan.specs.Halves.{IsColumn}
use Rattle.bites_scan.proofs.nibbles.Nibbles.outside.Given as goal

abbrev pub invariant-loop-half : goal.invariant-loop-half
invariant-loop-half l = record {
  low_len : length l.low ≡ 16;
  high_len : length l.high ≡ 16;
  lows : (h : ℕ) → h < l.half → IsColumn (λ byte. not (get_or l.flags byte false)) h (get_or l.low h 0);
  highs : (h : ℕ) → h < l.half → IsColumn (λ byte. not (get_or l.flags byte false)) (128 + h) (get_or l.high h 0);
}
