use Rattle.std.proofs.Common.{◌∙◌, ◌∷◌, ap, arith, length, map, sym}
use Rattle.bites_bytes.proofs.bytes.set_patterns.SetPatternsIterator.next.Goals as goal

pub returns-clause-steps : goal.returns-clause-steps
returns-clause-steps c =
    sym c.self.view_is ∙ ap (map (λ r. r.pattern)) c.in_ok-regex.ensures.cases.0
    ∙ ap (λ p. p ∷ map (λ r. r.pattern) c.in_ok-regex.rest.now) (sym c.as_str.ensures.pattern)

pub returns-clause-goes : goal.returns-clause-goes
returns-clause-goes c =
    let less = ap length (sym c.self.view_is ∙ ap (map (λ r. r.pattern)) c.in_ok-regex.ensures.cases.0) in
    record { on = λ _. (tt, tt, omega (arith, less)); keeps = tt; rests = λ _. tt }
