use Rattle.clients.proofs.explain.searches.searches.Given as goal

abbrev pub decreases-loop-next : goal.decreases-loop-next
decreases-loop-next l = l.most
