use Rattle.std.proofs.Common.{◌≡◌, ◌+◌, ◌-◌, ◌*◌, ◌%◌, ◌<◌, ◌≤◌, bit_or, get_or}
use Rattle.bites_scan.specs.Trigrams.{HasTrigramsUpTo}
use Rattle.bites_scan.proofs.trigrams.Trigrams.of.Given as goal

-- the hashes so far are there, and the last one holds what the last two bytes give
abbrev pub invariant-loop-at : goal.invariant-loop-at
invariant-loop-at l = record {
  small : l.hash < 4096;
  held : HasTrigramsUpTo l.trigrams l.haystack l.at;
  one : 1 ≤ l.at → l.hash % 16 ≡ bit_or (get_or l.haystack (l.at - 1) 0) 32 % 16;
  two : 2 ≤ l.at → l.hash % 256 ≡ (16 * bit_or (get_or l.haystack (l.at - 2) 0) 32 + bit_or (get_or l.haystack (l.at - 1) 0) 32) % 256;
}
