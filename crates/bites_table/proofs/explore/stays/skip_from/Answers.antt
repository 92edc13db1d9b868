use Rattle.bites_table.proofs.Library.{◌≡◌, ◌∷◌, ℕ, List, true, false, ap, reverse, sym, subst, slice_index_or}
use Rattle.bites_table.proofs.Words.{list_at, table_of, program_in, classes_in, AllWalkSo, IsKept, StaysOver}
use Rattle.bites_table.specs.declared.kind.Kind as code
use Rattle.bites_table.proofs.StepLemmas.{if_some}
use Rattle.bites_table.proofs.StayLemmas.{stays-over, walk-first}
use Rattle.bites_table.proofs.explore.stays.skip_from.Goals as goal

pub returns : goal.returns
unfolding classes_in
returns c =
    let p = program_in c.args.context.now in
    let k = classes_in c.args.context.now in
    let tab = table_of c.args.graph.now in
    let n = c.args.number in
    let first = c.in_ok-first.first in
    let after = c.args.context.now.after.now in
    let kinds = c.in_ok-kinds.kinds.items in
    let keeps = c.kept_by-keeps.result in
    let seen = reverse c.walk_once.new.memory.seen.items in
    let looks = c.in_ok-walked.walked.looks in
    let kept : (d : ℕ) → slice_index_or keeps d false ≡ true → IsKept tab n (first ∷ kinds) after d =
    subst (λ (l : List code.Kind). (d : ℕ) → slice_index_or keeps d false ≡ true → IsKept tab n (first ∷ l) after d) c.deref.ensures.value c.kept_by-keeps.ensures in
    let all : AllWalkSo p (list_at tab n) (first ∷ kinds) seen looks =
    walk-first p (list_at tab n) first kinds seen looks c.in_ok-walked.ensures.walks c.in_ok-kinds.ensures.kinds in
    let over : StaysOver tab n keeps seen looks =
    record { stays = stays-over p k tab c.requires.stores.table n (first ∷ kinds) after keeps kept c.requires.stores.context.after seen looks all } in
    let same = ap (λ v. v.items) c.alike_kinds.ensures.seen in
    let own : StaysOver tab n keeps (reverse c.alike_kinds.new.memory.seen.items) looks =
    subst (λ (s : List ℕ). StaysOver tab n keeps (reverse s) looks) (sym same) over in
    if_some (λ s is. is tab n own) c.skip_of.result c.skip_of.ensures
