use Rattle.bites_table.proofs.Library.{common_steps, subst, arith}
use Rattle.bites_table.proofs.Words.{HaveMembers, AreSound}
use Rattle.bites_table.proofs.ClassLemmas.{class_below, own_class}
use Rattle.bites_table.proofs.classes.Classes.of_blocks.Goals as goal

pub invariant_of-result : goal.invariant_of-result
invariant_of-result c =
    let begins = c.args.begins.items in
    let of = c.args.of.items in
    let members = c.in_ok-members.members.items in
    let have : HaveMembers begins of members =
    subst (λ bs. HaveMembers bs of members) c.deref.ensures.value (subst (λ os. HaveMembers c.deref.result.now os members) c.deref-2.ensures.value c.in_ok-members.ensures.members) in
    let some = have.below 0 c.requires.begins.some in
    let sound : AreSound (record { begins = begins; classes = of; members = members }) = record {
      rising = c.requires.begins.rising;
      first = c.requires.begins.first;
      begun = c.requires.begins.some;
      classes = c.requires.blocks;
      below = have.below;
      few = c.in_ok-members.ensures.few;
      some = omega arith;
      own = own_class (record { begins = begins; classes = of; members = members }) c.requires.begins.rising c.requires.begins.first have;
    } in
    grind (arith, common_steps, class_below)
