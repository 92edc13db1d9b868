use Rattle.std.proofs.Common.{arith}
use Rattle.bites_syntax.proofs.TreeParts.{read_below}
use Rattle.clients.proofs.explain.tree_json.+write_tree.Goals as goal

pub write_trees-write_tree-requires : goal.write_trees-write_tree-requires
write_trees-write_tree-requires t c =
    let below = read_below c.args.parts.now c.loop-part.part-index c.part-item.result c.part-item.is (omega arith) in
    (omega (arith, c.requires, below), tt)
