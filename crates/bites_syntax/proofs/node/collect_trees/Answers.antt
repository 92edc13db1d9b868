use Rattle.std.proofs.Common.{◌≡◌, ◌++◌, ◌∷◌, sym, subst, append_assoc}
use Rattle.std.specs.Vec.Iter.{into_iter_items}
use Rattle.bites_syntax.specs.declared.node.Node.TheVariants.{TooTall}
use Rattle.bites_syntax.specs.Nodes.{AreNodes}
use Rattle.bites_syntax.proofs.NodeLemmas.{too_tall_whole, kept_more}
use Rattle.bites_syntax.proofs.node.collect_trees.Goals as goal

pub returns-in_default : goal.returns-in_default
returns-in_default c = λ ts are.
    let whole : c.loop-node.yielded ++ TooTall ∷ into_iter_items c.next.new.self ≡ c.args.nodes.items =
    rw (← c.in_default.is, ← c.in-Some.ensures.steps.0) c.loop-node.invariant.2 in
    too_tall_whole c.args.limit c.loop-node.yielded (into_iter_items c.next.new.self) ts (subst (λ x. AreNodes c.args.limit x ts) (sym whole) are)

pub loop-node-preserved : goal.loop-node-preserved
loop-node-preserved c = (
  tt,
  tt,
  rw append_assoc (rw (← c.in-Some.ensures.steps.0) c.loop-node.invariant.2),
  rw c.in_ok-push.ensures.items (rw c.max-tallest.ensures
      (kept_more c.args.limit c.loop-node.yielded c.in-Some.node c.in-Kept.tree c.in-Kept.height c.loop-node.tallest c.loop-node.trees.items c.in-Kept.is c.loop-node.invariant.3)),
)
