use Rattle.std.proofs.Common.{◌≡◌, ◌&&◌, refl, sym, ap, ◌∙◌, arith}
use Rattle.std.proofs.lemmas.Bool.{and_parts}
use Rattle.bites_spec.specs.Match.{Matches}
use Rattle.bites_literals.proofs.FactLemmas.{turns, some_turns}
use Rattle.bites_literals.proofs.facts.Facts.repeated.Goals as goal
use Rattle.bites_literals.proofs.facts.Facts.repeated.Goals.{then-whole, else-whole}

pub returns-then-min-eq0 : goal.returns-then-min-eq0
returns-then-min-eq0 c t greedy facts =
    some_turns (λ hay i j. Matches hay t i j) c.args.self.now facts c.args.min c.args.max c.product-most.result _ c.product-most.ensures c.without_text.ensures

pub returns : goal.returns
returns c t greedy facts =
    let exact : c.if-whole.result ≡ (c.are_all-whole.result && c.args.self.now.exact) = elim c.if-whole.branch [
      | then-whole w ↦ w.result-is ∙ sym (ap (λ b. b && c.args.self.now.exact) w.if-whole.true)
      | else-whole w ↦ w.result-is ∙ w.if-whole.false ∙ sym (ap (λ b. b && c.args.self.now.exact) w.if-whole.false)
    ] in
    turns (λ hay i j. Matches hay t i j) c.args.self.now facts c.args.min c.args.max _ c.turns_in_front-turns.result (omega arith) c.product-most.ensures refl refl c.turns_in_front-turns.ensures
    c.repeated.ensures.bytes c.repeated.ensures.caseless c.are_all-whole.ensures (λ e. and_parts c.are_all-whole.result c.args.self.now.exact (sym exact ∙ e)) refl refl
