use Rattle.std.proofs.Common.{take}
use Rattle.bites_literals.specs.FixedWidth.{marks_of}
use Rattle.bites_bytes.proofs.FixedGroupLemmas.{HoldsMarks}
use Rattle.bites_bytes.proofs.bytes.fixed_groups.slots_of.Given as goal

abbrev pub invariant-loop-group : goal.invariant-loop-group
invariant-loop-group l = HoldsMarks (marks_of (take l.group-index l.fixed.groups.items)) l.fn.count l.slots.items
