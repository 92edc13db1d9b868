use Rattle.std.proofs.Common.{subst, sym}
use Rattle.bites_literals.specs.Begins.{IsOnly}
use Rattle.bites_literals.specs.Texts.{needle_of}
use Rattle.bites_literals.proofs.BeginLemmas.{only_text}
use Rattle.bites_literals.proofs.prefilter.Near.of.Goals as goal

pub returns-then-facts-2 : goal.returns-then-facts-2
returns-then-facts-2 c t facts =
    c.of_text.ensures t facts (c.in_front.ensures.needed t facts)
    (λ on. subst (λ text. IsOnly t (needle_of text)) (sym c.in_front.ensures.text) (only_text t c.args.facts.now facts c.if-facts.true c.if-facts-2.true))
