use Rattle.std.proofs.Common.{subst}
use Rattle.bites_spec.specs.Grammar.{literal_of}
use Rattle.bites_syntax.specs.FlagsView.{flags_of}
use Rattle.bites_syntax.specs.Nodes.{IsNodeOf}
use Rattle.bites_syntax.proofs.NodeLemmas.{nodes_push}
use Rattle.bites_syntax.proofs.parse.Branches.push_literal.Goals as goal

pub returns-clause-nodes : goal.returns-clause-nodes
returns-clause-nodes c = λ limit ts are.
    rw c.in_ok-push.ensures.items
    (nodes_push limit c.args.self.now.nodes.items c.leaf.result ts (literal_of (flags_of c.args.flags) c.args.c) are
    (subst (λ t. IsNodeOf limit c.leaf.result t) c.literal.ensures (c.leaf.ensures limit)))
