use Rattle.std.proofs.Common.{◌≡◌, ◌≤◌, ◌-◌, length, drop}
use Rattle.bites_spec.specs.Set.{numbers_from}
use Rattle.bites_bytes.proofs.bytes.set_matches.SetMatchesIterIterator.next.Given as goal

abbrev pub decreases-loop-self : goal.decreases-loop-self
decreases-loop-self l = length l.self-inside.matched.now - l.self-inside.next

-- nothing was left out
abbrev pub invariant-loop-self : goal.invariant-loop-self
invariant-loop-self l = record {
  within : l.self-inside.next ≤ length l.self-inside.matched.now;
  left : numbers_from l.self-inside.next (drop l.self-inside.next l.self-inside.matched.now) ≡ l.fn.self;
}
