use Rattle.std.proofs.Common.{◌≡◌, ℕ, ◌<◌, get_or}
use Rattle.std.specs.Int.{bit_at}
use Rattle.bites_scan.proofs.shortlist.list_under_all.Given as goal

abbrev pub invariant-loop-hash : goal.invariant-loop-hash
invariant-loop-hash l = record {
  listed : (h : ℕ) → h < l.hash → bit_at (get_or l.by_hash h 0) l.number ≡ 1;
  kept : (h k : ℕ) → bit_at (get_or l.initial.by_hash h 0) k ≡ 1 → bit_at (get_or l.by_hash h 0) k ≡ 1;
}
