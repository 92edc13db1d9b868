use Rattle.std.proofs.Common.{◌≡◌, ◌∷◌, ◌++◌, [], subst}
use Rattle.bites_spec.specs.Reader.{repeat_last}
use Rattle.bites_spec.specs.Tree.{repetition_of}
use Rattle.bites_syntax.specs.Nodes.{AreNodes}
use Rattle.bites_syntax.specs.Operators.{bounds_of}
use Rattle.bites_syntax.proofs.NodeLemmas.{last_of, nodes_push}
use Rattle.bites_syntax.proofs.BranchLemmas.{repeat_last_is}
use Rattle.bites_syntax.proofs.parse.Branches.repeat.Goals as goal

pub returns-in_ok-push-clause-nodes : goal.returns-in_ok-push-clause-nodes
returns-in_ok-push-clause-nodes c = λ t ts are.
    let r = last_of c.args.limit c.pop.new.self.items c.in-Some.node (t ∷ ts) (subst (λ x. AreNodes c.args.limit x (t ∷ ts)) c.in-Some.ensures.items are) in
    let b = bounds_of c.args.bounds in
    let repeats : repeat_last b t ts ≡ r.prefix ++ repetition_of b.0 b.1 b.2 r.last ∷ [] = repeat_last_is b r.prefix r.last t ts r.are in
    rw repeats (rw c.in_ok-push.ensures.items
    (nodes_push c.args.limit c.pop.new.self.items c.in_ok-node.node r.prefix (repetition_of b.0 b.1 b.2 r.last) r.nodes_are (c.in_ok-node.ensures r.last r.node_is)))
