use Rattle.std.proofs.Common.{arith}
use Rattle.bites_literals.proofs.fixed_width.FixedWidth.empty.Goals as goal

pub returns-clause-grows : goal.returns-clause-grows
returns-clause-grows c = record { short = omega arith; clear = λ k b le e. c.none.ensures k b e }
