use Rattle.bites_machine.proofs.Library.{◌≡◌, ◌-◌, ◌*◌, ◌/◌, ◌%◌, ◌^◌, ◌∙◌, suc, ap, arith, bit_and, has_bit}
use Rattle.bites_machine.proofs.compile.BitLemmas.{has_bit-within}
use Rattle.bites_machine.proofs.ranges.bits_within.Goals as goal

pub returns-clause-bits : goal.returns-clause-bits
returns-clause-bits c = λ n.
    let first = c.args.first in
    let last = c.args.last in
    let left_out : 63 - last ≡ 64 - suc last = omega arith in
    ap (λ k. has_bit (bit_and ((2 ^ 64 - 1) * 2 ^ first % 2 ^ 64) ((2 ^ 64 - 1) / 2 ^ k)) n) left_out ∙ has_bit-within _ _ _ _ c.requires.order c.requires.word
