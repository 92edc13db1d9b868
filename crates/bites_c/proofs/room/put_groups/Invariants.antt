use Rattle.std.proofs.Common.{◌≡◌, length}
use Rattle.bites_c.specs.Put.{HasPrefix}
use Rattle.bites_c.proofs.room.put_groups.Given as goal

-- the first groups are put, and the slice keeps its length
abbrev pub invariant-loop-group : goal.invariant-loop-group
invariant-loop-group l = HasPrefix l.locations l.group l.fn.groups l.groups × (length l.groups ≡ length l.fn.groups)
