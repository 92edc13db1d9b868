use Rattle.std.proofs.Common.{◌≡◌, ◌++◌, List, suc}
use Rattle.std.specs.Vec.Iter.{into_iter_items}
use Rattle.bites_spec.specs.Measure.{height}
use Rattle.bites_spec.specs.Tree.{Tree, sequence, trees_of}
use Rattle.bites_syntax.specs.Nodes.{AreNodes}
use Rattle.bites_syntax.proofs.node.collect_trees.Given as goal

abbrev pub invariant-loop-node : goal.invariant-loop-node
invariant-loop-node l =
    (goal.iterator-loop-node).can_next l.node-iterator × (goal.iterator-loop-node).is_finite l.node-iterator
    × (l.yielded ++ into_iter_items l.node-iterator ≡ l.fn.nodes.items)
    × ((ts : List Tree) → AreNodes l.limit l.yielded ts → (l.trees.items ≡ ts) × (suc l.tallest ≡ height (sequence (trees_of ts))))
