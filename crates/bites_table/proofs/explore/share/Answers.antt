use Rattle.bites_table.proofs.Library.{common_steps, rules, ◌≡◌, ◌<◌, [], length, map, sym, ap, ◌∙◌, subst, arith, slice_index_or}
use Rattle.bites_table.proofs.Words.{Kind, taken, AssertsAs, list_at, kind_as, frame_of, Graph, table_of, IsFilled, program_in, classes_in, Edge}
use Rattle.bites_table.proofs.GraphLemmas.{grows-within}
use Rattle.bites_table.proofs.ExploreLemmas.{filled-trans, filled-grows, row-stays, outcome-shared}
use Rattle.bites_table.proofs.explore.share.Goals as goal
use Rattle.bites_table.proofs.explore.share.Goals.{then-has_bit+then-eq+in_ok-outcome, else-has_bit}

pub loop-class-preserved : goal.loop-class-preserved
loop-class-preserved c =
    let p = program_in c.args.context.now in
    let k = classes_in c.args.context.now in
    let g = c.args.graph.now in
    let own = c.loop-class.graph in
    let d = c.loop-class.class in
    let after = c.args.context.now.after.now in
    let row = c.args.row.now in
    let w = c.args.memory.now.walk in
    let seen = c.args.memory.now.seen.items in
    let filled = c.loop-class.invariant in
    let lt : d < length after = omega arith in
    let classes : own.classes ≡ length after = ap (λ (h : Graph). h.classes) filled.same ∙ c.requires.making.classes in
    elim c.if-has_bit.branch [
      | then-has_bit+then-eq+in_ok-outcome v ↦
          let grows = filled-grows p k g own filled in
          let kind : slice_index_or after d Edge ≡ row.kind = search rules in
          let asserts : (b : Kind) → AssertsAs p b (kind_as row.kind) (k.member d) = λ b. subst (λ kind. AssertsAs p b (kind_as kind) (k.member d)) kind (c.requires.making.context.after b d lt) in
          let none : taken p (k.member d) (map frame_of w.takers.items) ≡ [] = grind (arith, common_steps) in
          let over = outcome-shared p k own filled.made w seen row (row-stays p g own grows w seen row c.requires.within c.requires.row) d v.in_ok-outcome.outcome (omega arith) asserts v.in_ok-outcome.ensures none in
          subst (IsFilled p k g) (sym v.graph-is)
          (filled-trans p k g own v.set_cell.new.graph filled
          (v.set_cell.ensures p k (grows-within g own grows row.number c.requires.within) filled.made (asserts (list_at (table_of own) row.number).kind) over))
      | else-has_bit v ↦ subst (IsFilled p k g) (sym v.graph-is) filled
    ]
