use Rattle.std.proofs.Common.{arith}
use Rattle.bites_literals.proofs.AsciiLemmas.{between_bits, bit_between, bits_fit}
use Rattle.bites_literals.proofs.ascii.AsciiSet.range.Goals as goal

pub overflow_sub-result : goal.overflow_sub-result
overflow_sub-result c = bits_fit c.args.first c.min-last.result (omega arith) (omega (arith, c.min-last.ensures))

pub returns-clause-has : goal.returns-clause-has
returns-clause-has c byte low from to = bit_between c.args.first c.min-last.result (omega arith) (omega (arith, c.min-last.ensures)) byte from (omega (arith, c.min-last.ensures, low, to))

pub returns-clause-only : goal.returns-clause-only
returns-clause-only c byte low e =
    let between = between_bits c.args.first c.min-last.result (omega arith) (omega (arith, c.min-last.ensures)) byte e in (between.0, omega (arith, between.1, c.min-last.ensures))
