use Rattle.bites_machine.proofs.Library.{common_steps, arith, digits_too_large}
use Rattle.bites_machine.proofs.interpolate.number_of_digits.Goals as goal

pub returns-in_err-number : goal.returns-in_err-number
returns-in_err-number c = grind (arith, common_steps, digits_too_large)
