use Rattle.bites_table.proofs.Library.{common_steps, arith, ◌≡◌, ◌∙◌, sym, eqb-true}
use Rattle.bites_table.proofs.StoredLemmas.{same-items}
use Rattle.bites_table.proofs.explore.graph.Graph.is_outcome.Goals as goal

pub returns-then-eq : goal.returns-then-eq
returns-then-eq c e =
    let same : c.outcome-own.result.moves.now ≡ c.args.outcome.now.moves.now = same-items _ (λ x y is. grind (arith, common_steps, eqb-true)) _ _ (sym c.eq-then-eq.ensures ∙ e) in
    grind (arith, common_steps)
