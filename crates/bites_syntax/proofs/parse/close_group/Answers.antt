use Rattle.bites_spec.specs.Grammar.{group_of}
use Rattle.bites_syntax.proofs.NodeLemmas.{nodes_push}
use Rattle.bites_syntax.proofs.parse.close_group.Goals as goal

pub returns-clause-nodes : goal.returns-clause-nodes
returns-clause-nodes c = λ opening before branches nodes numbered is are.
    rw c.in_ok-push.ensures.items
    (nodes_push c.args.limit c.args.branches.now.nodes.items c.in_ok-node.node nodes (group_of opening before branches) are (c.in_ok-node.ensures opening before branches numbered is))
