use Rattle.bites_literals.proofs.AsciiLemmas.{bit_of_either, either_bit}
use Rattle.bites_literals.proofs.ascii.AsciiSet.union.Goals as goal

pub returns-clause-has : goal.returns-clause-has
returns-clause-has c = either_bit c.args.self.bits c.args.other.bits

pub returns-clause-only : goal.returns-clause-only
returns-clause-only c = bit_of_either c.args.self.bits c.args.other.bits
