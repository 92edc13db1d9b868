use Rattle.std.proofs.Common.{rules}
use Rattle.bites_syntax.specs.TreeFalls.{parts_fall}
use Rattle.bites_syntax.proofs.tree.Tree.+tree.Goals as goal

-- src/tree.rt:27:13
pub drop-requires-4 : goal.drop-requires-4
drop-requires-4 t c κs = search (rules, parts_fall c.drop-arg-6-1.given.0.0.items, c.drop-arg-6-1)

-- src/tree.rt:27:13
pub drop-requires-5 : goal.drop-requires-5
drop-requires-5 t c κs = search (rules, parts_fall c.drop-arg-9-1.given.0.0.items, c.drop-arg-9-1)
