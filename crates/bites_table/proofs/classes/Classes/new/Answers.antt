use Rattle.bites_table.proofs.Library.{sym, subst, state_at, states_of}
use Rattle.bites_table.proofs.Words.{AreSplit, AreSplitByKinds, AreBounds, IsWithin, before_state, after_state, CoverBefore, CoverAfter}
use Rattle.bites_table.proofs.ClassLemmas.{made_classes}
use Rattle.bites_table.proofs.DistinctionLemmas.{within_left, within_right}
use Rattle.bites_table.proofs.classes.Classes.new.Goals as goal

pub returns : goal.returns
returns c =
    let p = c.args.program.now.program in
    let kinds = c.or-kinds.result in
    let is = c.states-states.ensures in
    let begins = c.in_ok-begins.begins.items in
    let blocks = c.in_ok-blocks.blocks.of.items in
    let bounds : AreBounds p.states kinds begins = subst (λ ss. AreBounds ss kinds begins) is c.in_ok-begins.ensures.bounds in
    let told = c.of.ensures in
    let before : CoverBefore kinds p.states = λ q. subst (IsWithin (before_state (state_at p.states q))) (sym c.or-kinds.ensures) (within_left _ _ _ (told.before_place q)) in
    let after : CoverAfter kinds p.states = λ q. subst (IsWithin (after_state (state_at p.states q))) (sym c.or-kinds.ensures) (within_right _ _ _ (told.after_place q)) in
    let states = states_of c.states-states.result.now in
    let split : AreSplit begins blocks p.states =
    subst (λ ss. AreSplit begins blocks ss) is
    (subst (λ l. AreSplit l blocks states) c.deref.ensures.value c.in_ok-blocks.ensures.states) in
    let by_kinds : AreSplitByKinds begins blocks kinds =
    subst (λ l. AreSplitByKinds l blocks kinds) c.deref.ensures.value c.in_ok-blocks.ensures.kinds in
    made_classes p kinds before after begins blocks c.in_ok-begins.ensures.begins bounds split by_kinds c.of_blocks.result c.of_blocks.ensures.classes c.of_blocks.ensures.members
