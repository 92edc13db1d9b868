use Rattle.std.proofs.Common.{rules}
use Rattle.bites_literals.proofs.AsciiLemmas.{bit_of_both, bit_of_others}
use Rattle.bites_literals.proofs.ascii.AsciiSet.complement.Goals as goal

pub returns-clause-has : goal.returns-clause-has
returns-clause-has c byte = bit_of_others c.args.self.bits byte (search rules)

pub returns-clause-only : goal.returns-clause-only
returns-clause-only c byte = bit_of_both c.args.self.bits byte (search rules)
