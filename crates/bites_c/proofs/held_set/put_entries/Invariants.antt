use Rattle.std.proofs.Common.{◌≡◌, ◌++◌, map, take, drop}
use Rattle.bites_c.specs.Sets.{byte_of}
use Rattle.bites_c.proofs.held_set.put_entries.Given as goal

-- the entries so far are put
abbrev pub invariant-loop-number : goal.invariant-loop-number
invariant-loop-number l = l.out ≡ map byte_of (take l.number l.matched) ++ drop l.number l.fn.out
