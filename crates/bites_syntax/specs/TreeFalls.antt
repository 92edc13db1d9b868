-- Each part of a tree is less tall than the tree.
use Rattle.std.specs.Prelude.{◌≤◌, max, ◌+◌, ◌*◌, List, [], ◌∷◌}
use Rattle.std.proofs.Common.{arith}
use denote.Param.Weighed.{most, w_this}
use Rattle.bites_spec.specs.Tree.{Tree, sequence, trees_of}
use Rattle.bites_spec.specs.Measure.{height, tallest}
use Rattle.bites_syntax.specs.declared.tree.Kind.{Kind}
use Rattle.bites_syntax.specs.declared.tree.Tree as declared
use Rattle.bites_syntax.specs.declared.tree.Kind.TheVariants.{Empty, Char, Class, Look, Repetition, Capture, Concat, Alternation}
use Rattle.bites_syntax.specs.declared.tree.Tree.TheDeep.{deep-Kind, size-Tree}
use Rattle.bites_syntax.specs.View.{tree_of}

most_le-height : (parts : List Tree) → most (λ t. height t + 1) parts ≤ height (sequence (trees_of parts))
most_le-height [] = omega arith
most_le-height (t ∷ parts) = omega (arith, most_le-height parts)

pub deep_le-height : (k : Kind) → max (deep-Kind k) 0 ≤ height (tree_of k)
deep_le-height Empty = omega arith
deep_le-height (Char c) = omega arith
deep_le-height (Class ranges) = omega arith
deep_le-height (Look l) = omega arith
deep_le-height (Repetition min most greedy sub) = omega arith
deep_le-height (Capture number name sub) = omega arith
deep_le-height (Concat parts) = omega (arith, most_le-height parts.items)
deep_le-height (Alternation parts) = omega (arith, most_le-height parts.items)

-- The measure of a function over trees, at the parts of a tree: what drops a tree goes down by it.
pub parts_fall : (parts : List Tree) → most (w_this.weight declared.Tree size-Tree) parts ≤ 2 * tallest (trees_of parts) + 2
parts_fall [] = omega arith
parts_fall (t ∷ parts) = omega (arith, parts_fall parts)
