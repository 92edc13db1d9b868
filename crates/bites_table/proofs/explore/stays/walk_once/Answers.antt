use Rattle.bites_table.proofs.Library.{◌++◌, reverse, ap, sym, ◌∙◌, append-nil}
use Rattle.bites_table.proofs.explore.stays.walk_once.Goals as goal

pub returns-clause-walks : goal.returns-clause-walks
returns-clause-walks c = record {
  walk = c.walk_again.new.memory.walk;
  walked = c.in_ok-looks.ensures.walked;
  seen_is =
      let visited = c.walk_again.new.memory.walk.visited in
      sym (c.in_ok-push_to.ensures ∙ ap (λ l. visited ++ reverse l) c.clear.ensures.items ∙ append-nil visited);
}
