use Rattle.bites_machine.proofs.Library.{◌≡◌, ◌+◌, ◌*◌, ◌-◌, ◌≤◌, drop, sum_by, sequence, trees_of, names_in_all, height, name_size, held}
use Rattle.bites_machine.proofs.groups.+size_of_names.Given as goal

abbrev pub decreases-size_of_names : goal.decreases-size_of_names
decreases-size_of_names l = 2 * height l.tree.now

abbrev pub decreases-size_of_names_of_all : goal.decreases-size_of_names_of_all
decreases-size_of_names_of_all l = 2 * height (sequence (trees_of l.parts.now)) - 1

abbrev pub invariant-size_of_names_of_all-loop-part : goal.invariant-size_of_names_of_all-loop-part
invariant-size_of_names_of_all-loop-part l = record {
  total : held (l.all + sum_by name_size (names_in_all (trees_of (drop l.part-index l.parts)))) ≡ held (sum_by name_size (names_in_all (trees_of l.parts)));
  within : l.all ≤ 18446744073709551615;
}
