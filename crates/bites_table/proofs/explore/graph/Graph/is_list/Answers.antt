use Rattle.bites_table.proofs.Library.{common_steps, arith, ◌≡◌, ◌∙◌, sym, eqb-true}
use Rattle.bites_table.proofs.StoredLemmas.{same-items}
use Rattle.bites_table.proofs.explore.graph.Graph.is_list.Goals as goal

pub returns-then-eq-2 : goal.returns-then-eq-2
returns-then-eq-2 c e =
    let same : c.list-own.result.threads.now ≡ c.args.list.now.threads.now = same-items _ (λ x y is. grind (arith, common_steps, eqb-true)) _ _ (sym c.eq-then-eq-2.ensures ∙ e) in
    grind (arith, common_steps)
