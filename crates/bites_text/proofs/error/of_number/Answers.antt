use Rattle.std.proofs.Common.{◌≡◌, ◌≤◌, ◌<◌, ◌-◌, arith}
use Rattle.bites_text.proofs.NumberLemmas.{number_at}
use Rattle.bites_text.specs.declared.error.Error.TheVariants.{TooMuchNesting}
use Rattle.bites_text.proofs.error.of_number.Goals as goal

pub returns-clause-known : goal.returns-clause-known
returns-clause-known c =
    let some : c.args.number ≡ 0 → ⊥ = c.if-number-eq0.false in
    let few : c.args.number ≤ 58 = c.if-number-gt58.false in
    let below : c.args.number - 1 < 58 = omega arith in
    let at = number_at c.errors.result TooMuchNesting (c.args.number - 1) c.errors.ensures below in
    omega arith
