use Rattle.bites_table.proofs.Library.{common_steps, ◌≡◌, ◌+◌, take, length, [], ◌∷◌, ◌++◌, ap, ◌∙◌, arith, slice_index_or, take_more, among_index}
use Rattle.bites_table.proofs.Words.{with_spare, own_rows, after_steps, Copy}
use Rattle.bites_table.proofs.RowLemmas.{own-rows-are, own-rows-length, steps-length, one-step-more}
use Rattle.bites_table.proofs.steps.run_steps.Goals as goal

pub loop-step-init : goal.loop-step-init
loop-step-init c = own-rows-are c.args.registers.now c.args.width c.args.place

pub run_step-requires-clause-names : goal.run_step-requires-clause-names
run_step-requires-clause-names c = grind (arith, common_steps, among_index)

pub loop-step-preserved : goal.loop-step-preserved
loop-step-preserved c =
    let steps = c.args.steps.now in
    let i = c.loop-step.step-index in
    let so_far = after_steps (take i steps) own_rows in
    let len : length so_far ≡ with_spare = steps-length (take i steps) own_rows ∙ own-rows-length in
    let more : after_steps (take (i + 1) steps) own_rows ≡ after_steps (take i steps ++ slice_index_or steps i (Copy 0 0) ∷ []) own_rows = ap (λ l. after_steps l own_rows) (take_more steps i (Copy 0 0) c.loop-step-test.true) in
    grind (arith, common_steps, one-step-more)
