use Rattle.std.proofs.Common.{◌≡◌, ◌+◌, ◌++◌, length, take}
use Rattle.bites_literals.proofs.text.Text.followed_by.Given as goal

abbrev pub invariant-loop-k : goal.invariant-loop-k
invariant-loop-k l = record {
  len : length l.bytes ≡ 32;
  so_far : take (l.self.len + l.k) l.bytes ≡ take l.self.len l.self.bytes ++ take l.k l.next.bytes;
}
