use Rattle.std.proofs.Common.{◌≡◌, ◌&&◌, sym, ap, ◌∙◌, subst}
use Rattle.bites_spec.specs.Match.{Matches, MatchesOne}
use Rattle.bites_literals.specs.Facts.{IsWithoutText}
use Rattle.bites_literals.proofs.FactLemmas.{one_of_both}
use Rattle.bites_literals.proofs.facts.Facts.or.Goals as goal
use Rattle.bites_literals.proofs.facts.Facts.or.Goals.{then-self, else-self}

pub returns : goal.returns
returns c t ts facts others =
    let ends : c.if-self.ends ≡ (c.args.self.now.ends && c.args.others.now.ends) = elim c.if-self.branch [
      | then-self w ↦ w.ends-is ∙ sym (ap (λ b. b && c.args.others.now.ends) w.if-self.true)
      | else-self w ↦ w.ends-is ∙ w.if-self.false ∙ sym (ap (λ b. b && c.args.others.now.ends) w.if-self.false)
    ] in
    one_of_both (λ hay i j. Matches hay t i j) (λ hay i j. MatchesOne hay ts i j) c.args.self.now c.args.others.now facts others c.greatest-most.result c.union.result _
    c.greatest-most.ensures c.union.ensures.has (subst (λ b. IsWithoutText c.greatest-most.result b c.union.result c.without_text.result) ends c.without_text.ensures)
