use Rattle.bites_spec.specs.Tree.{sequence_of}
use Rattle.bites_syntax.proofs.NodeLemmas.{nodes_push}
use Rattle.bites_syntax.proofs.parse.Branches.end_branch.Goals as goal

pub returns : goal.returns
returns c = λ bs ts bs_are ts_are. (
  rw c.in_ok-push.ensures.items
      (nodes_push c.args.limit c.args.self.now.complete.items c.in_ok-branch.branch bs (sequence_of ts) bs_are (c.in_ok-branch.ensures ts (rw c.replace-nodes.ensures.value ts_are))),
  rw c.replace-nodes.ensures.after c.in_ok-next.ensures.items,
)
