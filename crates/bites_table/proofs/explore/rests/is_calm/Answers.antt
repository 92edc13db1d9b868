use Rattle.bites_table.proofs.Library.{◌<◌, ◌∷◌, ℕ, List, length, ap, reverse, sym, subst, slice_index_or, Among}
use Rattle.bites_table.proofs.Words.{list_at, table_of, program_in, classes_in, AllWalkSo, Edge}
use Rattle.bites_table.specs.declared.kind.Kind as code
use Rattle.bites_table.proofs.RestLemmas.{is-calm}
use Rattle.bites_table.proofs.StayLemmas.{walk-first}
use Rattle.bites_table.proofs.explore.rests.is_calm.Goals as goal

pub returns-clause-calm : goal.returns-clause-calm
unfolding classes_in
returns-clause-calm c e =
    let p = program_in c.args.context.now in
    let k = classes_in c.args.context.now in
    let tab = table_of c.args.graph.now in
    let n = c.args.number in
    let first = c.args.walked.kind in
    let after = c.args.context.now.after.now in
    let kinds = c.in-Some.kinds.items in
    let seen = reverse c.args.memory.now.seen.items in
    let looks = c.args.walked.looks in
    let others : AllWalkSo p (list_at tab n) kinds seen looks =
    subst (λ (s : List ℕ). AllWalkSo p (list_at tab n) kinds (reverse s) looks) (ap (λ v. v.items) c.is_walked_so.ensures.seen) c.in-Some.ensures.kinds in
    let all : AllWalkSo p (list_at tab n) (first ∷ kinds) seen looks =
    walk-first p (list_at tab n) first kinds seen looks (c.is_walked_so.ensures.walks c.if-not-is_walked_so.false) others in
    let among : (d : ℕ) → d < c.end-end.result → (d < length after) × Among (first ∷ kinds) (slice_index_or after d Edge) =
    subst (λ (l : List code.Kind). (d : ℕ) → d < c.end-end.result → (d < length after) × Among (first ∷ l) (slice_index_or after d Edge)) c.deref.ensures.value
    (c.are_all_among.ensures c.if-not-are_all_among.false) in
    is-calm p k tab c.requires.table n c.end-end.result c.end-end.ensures.last (c.are_quiet.ensures c.if-not-are_quiet.false) (first ∷ kinds) after among c.requires.context.after seen looks all
    (c.ends_quietly.ensures e seen looks
    (subst (λ (l : List code.Kind). AllWalkSo p (list_at tab n) (first ∷ l) seen looks) (sym c.deref-2.ensures.value) all))
