use Rattle.bites_table.proofs.Library.{◌≡◌, ap, sym, ◌∙◌, arith, ◌==◌, nat_lt, false, nat_tests, bit_at_above}
use Rattle.bites_table.proofs.thread_list.has_bit.Goals as goal

pub returns-else-number : goal.returns-else-number
returns-else-number c =
    let past : nat_lt c.args.number 64 ≡ false = grind (arith, nat_tests) in
    past ∙ sym (ap (λ n. n == 1) (bit_at_above c.args.bits 64 c.args.number c.ranges.bits.fits c.if-number.false))
