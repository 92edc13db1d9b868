use Rattle.bites_table.proofs.Library.{common_steps, ◌<◌, length, sym, ap, ◌∙◌, subst, arith, length-append, ◌∷◌, [], length-map, state_at, takes, takes_by}
use Rattle.bites_table.proofs.Words.{classes_of, AreTaken}
use Rattle.bites_table.proofs.FrameLemmas.{has_ranges}
use Rattle.bites_table.proofs.TakenLemmas.{taken-push, state-is}
use Rattle.bites_table.proofs.explore.taken.taken_classes.Goals as goal

pub taken_by-requires : goal.taken_by-requires
taken_by-requires c = grind (arith, common_steps, length-map, has_ranges, state-is)

pub loop-state-preserved : goal.loop-state-preserved
loop-state-preserved c =
    let states = c.states-state-items.result.now in
    let p = c.args.program.now.program in
    let k = classes_of c.args.classes.now in
    let i = c.loop-state.state-index in
    let lt : i < length states = omega arith in
    let is = state-is states i c.state-item.result c.state-item.is lt ∙ ap (λ ss. state_at ss i) c.states-state-items.ensures in
    let len = ap length c.in_ok-push.ensures.items ∙ length-append c.loop-state.bits.items (c.taken_by.result ∷ []) in
    let before = c.loop-state.invariant.len in record {
      taken = subst (AreTaken p k) (sym c.in_ok-push.ensures.items)
          (taken-push p k c.loop-state.bits.items i c.taken_by.result c.loop-state.invariant.len c.loop-state.invariant.taken
          (λ x few. c.taken_by.ensures x few ∙ ap (λ st. takes_by (takes st) (k.member x)) is));
      len = omega arith;
    }
