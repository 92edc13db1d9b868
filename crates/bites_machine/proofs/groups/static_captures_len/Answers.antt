use Rattle.bites_machine.proofs.Library.{length, sym, subst, arith, groups_in, Within, count_within}
use Rattle.bites_syntax.proofs.GroupCounts.{groups_within_states}
use Rattle.bites_machine.proofs.compile.GroupLemmas.{groupless-count}
use Rattle.bites_machine.proofs.groups.static_captures_len.Goals as goal

pub static_count-requires : goal.static_count-requires
static_count-requires c = omega (arith, groups_within_states c.args.tree.now c.requires.reduced, c.requires.room)

pub overflow_add-result : goal.overflow_add-result
overflow_add-result c =
    let few = subst (λ o. Within o (length (groups_in c.args.tree.now))) (sym c.in_ok-static_count.ensures) (count_within c.args.tree.now) in
    omega (arith, few, groups_within_states c.args.tree.now c.requires.reduced, c.requires.room)

pub returns-then-captures-eq1 : goal.returns-then-captures-eq1
returns-then-captures-eq1 c = sym (groupless-count c.args.tree.now c.requires.reduced (omega (arith, c.requires.captures, c.if-captures-eq1.true)))
