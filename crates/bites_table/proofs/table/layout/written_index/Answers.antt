use Rattle.std.proofs.Common.{◌≡◌, ◌+◌, ◌*◌, ◌∙◌, arith}
use Rattle.bites_table.proofs.StepLemmas.{if_some}
use Rattle.bites_table.proofs.LaidOutLemmas.{writes-index, index-within}
use Rattle.bites_table.proofs.table.layout.written_index.Goals as goal
use Rattle.bites_table.proofs.Library.{common_steps}

pub returns-clause-within : goal.returns-clause-within
returns-clause-within c =
    let slots = c.args.slots in
    let index : c.in_ok-index.index ≡ c.in_ok-register.register * slots + c.in_ok-register.slot = omega (arith, c.in_ok-index.ensures, c.in_ok-row.ensures) in
    if_some (λ w e. index-within slots c.in_ok-register.register c.in_ok-register.slot w c.in_ok-register.ensures.few c.if-slot-slots.false (e ∙ index)) c.short.result c.short.ensures

pub returns-clause-alike : goal.returns-clause-alike
returns-clause-alike c = grind (arith, common_steps, if_some, writes-index)
