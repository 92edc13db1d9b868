use Rattle.std.proofs.Common.{◌≡◌, ◌+◌, ap, length, subst, arith}
use Rattle.bites_spec.specs.Match.{Matches}
use Rattle.bites_literals.specs.Texts.{bytes_of}
use Rattle.bites_literals.proofs.choice.texts_of.Goals as goal

pub returns-in-Ok-true : goal.returns-in-Ok-true
returns-in-Ok-true c hay i j m =
    let none = ap length c.empty.ensures in
    let at : i ≡ i + length (bytes_of c.empty.result) = omega (arith, none) in
    (c.in-Ok-true.ensures c.in-Ok-true.field-0-test).begins hay i j (λ k lt. absurd (omega (arith, none, lt))) (subst (λ p. Matches hay c.args.tree.now p j) at m)
