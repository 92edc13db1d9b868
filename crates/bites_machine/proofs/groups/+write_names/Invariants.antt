use Rattle.bites_machine.proofs.Library.{◌≡◌, ◌*◌, ◌-◌, length, drop, sequence, trees_of, height, groups_of, bytes_of, filled}
use Rattle.bites_machine.proofs.groups.+write_names.Given as goal

abbrev pub decreases-write_names : goal.decreases-write_names
decreases-write_names l = 2 * height l.tree.now

abbrev pub decreases-write_names_of_all : goal.decreases-write_names_of_all
decreases-write_names_of_all l = 2 * height (sequence (trees_of l.parts.now)) - 1

abbrev pub invariant-write_names_of_all-loop-part : goal.invariant-write_names_of_all-loop-part
invariant-write_names_of_all-loop-part l = record {
  written : filled (groups_of (sequence (trees_of (drop l.part-index l.parts)))) (bytes_of l.names.items) ≡ filled (groups_of (sequence (trees_of l.parts))) (bytes_of l.initial.names.items);
  len : length l.names.items ≡ length l.initial.names.items;
}
