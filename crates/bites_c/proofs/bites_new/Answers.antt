use Rattle.bites_c.proofs.bites_new.Goals as goal

pub returns-in-Ok-clause-utf8 : goal.returns-in-Ok-clause-utf8
returns-in-Ok-clause-utf8 c = (λ never. cc, λ no. absurd (no c.in-Ok.ensures.text))
