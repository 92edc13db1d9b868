use Rattle.bites_table.proofs.Library.{common_steps, ◌≡◌, ◌<◌, true, length, map, sym, ap, ◌∙◌, subst, arith, slice_index_or}
use Rattle.bites_table.proofs.Words.{Kind, kind_of, AreAlikeKinds, taken, AssertsAs, list_at, kind_as, frame_of, Graph, table_of, IsFilled, IsOutcomeOf, program_in, classes_in, Edge}
use Rattle.bites_table.proofs.TakenLemmas.{taken-append}
use Rattle.bites_table.proofs.GraphLemmas.{grows-within}
use Rattle.bites_table.proofs.ExploreLemmas.{filled-trans, filled-grows, outcome-of-stays, outcome-alike, ends-alike}
use Rattle.bites_table.proofs.explore.set_alike.Goals as goal

pub loop-others-preserved-then-is_alike : goal.loop-others-preserved-then-is_alike
loop-others-preserved-then-is_alike c =
    let p = program_in c.args.context.now in
    let k = classes_in c.args.context.now in
    let f = c.args.graph.now in
    let g = c.set_cell.new.graph in
    let own = c.loop-others.graph in
    let class = c.args.class in
    let d = c.first_of-other.result in
    let after = c.args.context.now.after.now in
    let row = c.args.row.now in
    let w = c.args.memory.now.walk in
    let seen = c.args.memory.now.seen.items in
    let asserts : (b : Kind) → AssertsAs p b (kind_as row.kind) (k.member class) = λ b. subst (λ kind. AssertsAs p b (kind_as kind) (k.member class)) (sym c.requires.kind) (c.requires.making.context.after b class c.requires.class) in
    let first : IsFilled p k f g = c.set_cell.ensures p k c.requires.within c.requires.making.made (asserts (list_at (table_of f) row.number).kind) c.requires.outcome in
    let filled : IsFilled p k f own = filled-trans p k f g own first c.loop-others.invariant in
    let classes : own.classes ≡ length after = ap (λ (h : Graph). h.classes) filled.same ∙ c.requires.making.classes in
    let yes : c.is_alike.result ≡ true = c.if-is_alike.true in
    let lt : d < length after = c.if-other-context.true in
    let grows = filled-grows p k f own filled in
    let io = outcome-of-stays p k f own grows c.requires.making.made w seen row class c.args.outcome c.requires.within c.requires.outcome in
    let frames = map frame_of w.takers.items in
    let rest = io.row_is.rest in
    let same : slice_index_or after d Edge ≡ slice_index_or after class Edge = c.is_alike.ensures.after yes in
    let taken-same : taken p (k.member d) frames ≡ taken p (k.member class) frames = subst (λ ts. taken p (k.member d) (map frame_of ts) ≡ taken p (k.member class) (map frame_of ts)) c.deref.ensures.value (c.alike_classes-alike.ensures p k c.requires.making.context.taken d (c.is_alike.ensures.bit yes)) in
    let kinds : AreAlikeKinds p (kind_of (k.member class)) (kind_of (k.member d)) = c.is_alike.ensures.before yes in
    let rest-same : taken p (k.member d) rest ≡ taken p (k.member class) rest =
    ends-alike p k own filled.made w seen row io.row_is class d (let less = c.requires.class in omega arith) (omega arith) asserts
    (λ b. subst (λ kind. AssertsAs p b (kind_as kind) (k.member d)) (same ∙ sym c.requires.kind) (c.requires.making.context.after b d lt))
    (c.is_alike.ensures.ends yes) in
    let over : IsOutcomeOf p k own w seen row d c.args.outcome = record {
      row_is = io.row_is;
      outcome = grind (arith, common_steps, outcome-alike, taken-append);
    } in
    filled-trans p k g own c.set_cell-then-is_alike.new.graph c.loop-others.invariant
    (c.set_cell-then-is_alike.ensures p k (grows-within f own grows row.number c.requires.within) filled.made
    (subst (λ kind. AssertsAs p (list_at (table_of own) row.number).kind (kind_as kind) (k.member d)) (same ∙ sym c.requires.kind) (c.requires.making.context.after (list_at (table_of own) row.number).kind d lt)) over)
