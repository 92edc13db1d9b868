use Rattle.bites_table.proofs.Library.{common_steps, length, refl, sym, ap, ◌∙◌, subst, arith}
use Rattle.bites_table.proofs.Words.{Graph, Grows, IsRowOf, program_in, classes_in, IsMaking, Memory}
use Rattle.bites_table.proofs.GraphLemmas.{grows-refl, grows-trans}
use Rattle.bites_table.proofs.ExploreLemmas.{row-stays, filled-grows, filled-making}
use Rattle.bites_table.proofs.KindLemmas.{same_kind}
use Rattle.bites_table.proofs.explore.add_cells.Goals as goal
use Rattle.bites_table.proofs.explore.add_cells.Goals.{then-eq+in_ok-outcome, else-eq}

pub loop-init : goal.loop-init
loop-init c = record { making = c.requires.making; grows = grows-refl c.args.graph.now; len = refl; walk = refl; seen = refl }

pub add_outcome-requires-clause-row : goal.add_outcome-requires-clause-row
add_outcome-requires-clause-row c =
    let p = program_in c.args.context.now in
    let g = c.args.graph.now in
    let own = c.loop.graph in
    let row = c.args.row.now in
    let w = c.args.memory.now.walk in
    let seen = c.args.memory.now.seen.items in
    subst (λ v. IsRowOf p own v c.loop.memory.seen.items row) (sym c.loop.invariant.walk)
    (subst (λ s. IsRowOf p own w s row) (sym c.loop.invariant.seen) (row-stays p g own c.loop.invariant.grows w seen row c.requires.within c.requires.row))

pub add_outcome-requires-clause-kind : goal.add_outcome-requires-clause-kind
add_outcome-requires-clause-kind c = sym (same_kind _ _ (sym c.eq.ensures ∙ c.if-eq.true))

pub loop-preserved : goal.loop-preserved
loop-preserved c =
    let x = c.args.context.now in
    let g = c.args.graph.now in
    let own = c.loop.graph in
    elim c.if-eq.branch [
      | then-eq+in_ok-outcome v ↦
          let new = v.set_alike-left.new.graph in
          let filled = v.set_alike-left.ensures in
          let grows = filled-grows (program_in x) (classes_in x) v.add_outcome.new.graph new filled in
          record {
            making = subst (λ (h : Graph). IsMaking x h c.if-eq.memory.base) (sym v.graph-is)
                (subst (λ (m : Memory). IsMaking x new m.base) (sym v.memory-is) (filled-making x v.add_outcome.new.graph new v.add_outcome.new.memory.base filled v.add_outcome.ensures.making));
            grows = grind (arith, common_steps, filled-grows, filled-making, grows-trans);
            len = ap (λ (h : Graph). length h.cells) v.graph-is ∙ filled.len ∙ ap length v.add_outcome.ensures.cells ∙ c.loop.invariant.len;
            walk = ap (λ (m : Memory). m.walk) v.memory-is ∙ v.add_outcome.ensures.walk ∙ c.loop.invariant.walk;
            seen = ap (λ (m : Memory). m.seen.items) v.memory-is ∙ v.add_outcome.ensures.seen ∙ c.loop.invariant.seen;
          }
      | else-eq v ↦ record {
        making = subst (λ (h : Graph). IsMaking x h c.if-eq.memory.base) (sym v.graph-is) (subst (λ (m : Memory). IsMaking x own m.base) (sym v.memory-is) c.loop.invariant.making);
        grows = subst (Grows g) (sym v.graph-is) c.loop.invariant.grows;
        len = ap (λ (h : Graph). length h.cells) v.graph-is ∙ c.loop.invariant.len;
        walk = ap (λ (m : Memory). m.walk) v.memory-is ∙ c.loop.invariant.walk;
        seen = ap (λ (m : Memory). m.seen.items) v.memory-is ∙ c.loop.invariant.seen;
      }
    ]
