use Rattle.bites_machine.proofs.Library.{common_steps, rules, arith, nat_le}
use Rattle.std.proofs.lemmas.Fn.{filter_same}
use Rattle.bites_machine.proofs.vm.traced.Walk.record_match.Goals as goal
use Rattle.bites_machine.proofs.vm.traced.Walk.record_match.Goals.{then-longest, else-longest}

pub returns-clause-stack : goal.returns-clause-stack
returns-clause-stack c = elim c.if-longest.branch [
  | then-longest w ↦
      let kept = filter_same _ (λ t. nat_le t.start c.first.inside.start) _ (λ x b f' k. search rules) _ _ w.retain.ensures.filtered in
      grind (arith, common_steps)
  | else-longest w ↦ grind (arith, common_steps)
]
