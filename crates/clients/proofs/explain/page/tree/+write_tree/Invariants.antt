use Rattle.std.proofs.Common.{◌*◌, ◌-◌}
use Rattle.bites_spec.specs.Tree.{sequence, trees_of}
use Rattle.bites_spec.specs.Measure.{height}
use Rattle.clients.proofs.explain.page.tree.+write_tree.Given as goal

abbrev pub decreases-write_tree : goal.decreases-write_tree
decreases-write_tree l = 2 * height l.tree.now

abbrev pub decreases-write_trees : goal.decreases-write_trees
decreases-write_trees l = 2 * height (sequence (trees_of l.parts.now)) - 1
