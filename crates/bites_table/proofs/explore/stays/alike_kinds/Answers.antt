use Rattle.std.proofs.Common.{◌∙◌, ℕ, List, ap, reverse, sym, subst}
use Rattle.bites_table.proofs.Words.{list_at, table_of, program_in, AllWalkSo}
use Rattle.bites_table.proofs.explore.stays.alike_kinds.Goals as goal

pub loop-kind-preserved : goal.loop-kind-preserved
loop-kind-preserved c =
    let p = program_in c.args.context.now in
    let l = list_at (table_of c.args.graph.now) c.args.number in
    let looks = c.args.walked.looks in
    let inv = c.loop-kind.invariant in
    let same = ap (λ v. v.items) inv.seen in
    record {
      seen = c.add_alike.ensures.seen ∙ inv.seen;
      kinds = subst (λ (s : List ℕ). AllWalkSo p l c.add_alike.new.kinds.items (reverse s) looks) same
          (c.in_ok-add_alike.ensures.kinds (subst (λ (s : List ℕ). AllWalkSo p l c.loop-kind.kinds.items (reverse s) looks) (sym same) inv.kinds));
    }
