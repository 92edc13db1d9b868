use Rattle.bites_machine.proofs.Library.{◌≡◌, ◌+◌, ◌≤◌, drop, sum_by, group_size, held}
use Rattle.bites_machine.proofs.groups.size_of_groups.Given as goal

abbrev pub invariant-loop-i : goal.invariant-loop-i
invariant-loop-i l = record {
  total : held (l.all + sum_by group_size (drop l.i l.groups)) ≡ held (sum_by group_size l.groups);
  within : l.all ≤ 18446744073709551615;
}
