use Rattle.bites_machine.proofs.Library.{◌≡◌, ◌+◌, ◌*◌, ◌-◌, drop, sequence, trees_of, AllAreReduced, height, size_of, AllHaveClasses, held_size, both_sizes}
use Rattle.bites_machine.proofs.size.+size.Given as goal

abbrev pub decreases-size_of : goal.decreases-size_of
decreases-size_of l = 3 * height l.tree.now

abbrev pub decreases-size_of_repetition : goal.decreases-size_of_repetition
decreases-size_of_repetition l = 3 * height l.sub.now + 1

abbrev pub decreases-size_of_all : goal.decreases-size_of_all
decreases-size_of_all l = 3 * height (sequence (trees_of l.parts.now)) - 1

abbrev pub invariant-size_of_all-loop-part : goal.invariant-size_of_all-loop-part
invariant-size_of_all-loop-part l = record {
  total : held_size (both_sizes l.all (size_of (sequence (trees_of (drop l.part-index l.parts))))) ≡ held_size (size_of (sequence (trees_of l.parts)));
  within : l.all ≡ held_size l.all;
  reduced : AllAreReduced (trees_of (drop l.part-index l.parts));
  classes : AllHaveClasses (trees_of (drop l.part-index l.parts)) → AllHaveClasses (trees_of l.parts);
}
