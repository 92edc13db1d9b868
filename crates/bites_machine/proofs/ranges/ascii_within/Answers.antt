use Rattle.bites_machine.proofs.Library.{common_steps, ◌≡◌, ◌-◌, ◌*◌, ◌%◌, ◌^◌, ◌∙◌, suc, ap, arith, in_range, has_bit}
use Rattle.bites_machine.proofs.compile.BitLemmas.{has_bit-within, has_bit-raised, in_range-min}
use Rattle.bites_machine.proofs.ranges.ascii_within.Goals as goal

pub returns-then-first-ge64 : goal.returns-then-first-ge64
returns-then-first-ge64 c = λ n lt.
    let first = c.args.first in
    let last = c.min-last.result in
    ap (λ word. has_bit (word * 2 ^ 64 % 2 ^ 128) n) c.from-then-first-ge64.ensures
    ∙ has_bit-raised c.bits_within-then-first-ge64.result first last n c.bits_within-then-first-ge64.ensures.fits (omega arith) (omega arith) c.bits_within-then-first-ge64.ensures.bits
    ∙ ap (λ k. in_range (first, k) n) c.min-last.ensures
    ∙ in_range-min first c.args.last 127 n (omega arith)

pub returns-else-first-ge64 : goal.returns-else-first-ge64
returns-else-first-ge64 c = λ n lt.
    let last = c.min-last.result in
    let left_out : 127 - last ≡ 128 - suc last = omega arith in
    grind (arith, common_steps, has_bit-within, in_range-min)
