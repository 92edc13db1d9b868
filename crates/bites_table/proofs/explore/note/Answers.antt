use Rattle.bites_table.proofs.Library.{common_steps, rules, ◌≡◌, List, [], length, map, ap, ◌∙◌, arith, nat_tests}
use Rattle.bites_table.proofs.Words.{everywhere, ThreadList, starts_as, thread_as, registers_at, program_in, classes_in}
use Rattle.bites_table.proofs.GraphLemmas.{grows-refl}
use Rattle.bites_table.proofs.ExploreLemmas.{list-was, row-noted}
use Rattle.bites_table.proofs.explore.note.Goals as goal

nothing : {X : Type 0} (xs : List X) → length xs ≡ 0 → xs ≡ []
nothing xs e = grind (arith, common_steps)

pub returns-in-None : goal.returns-in-None
returns-in-None c =
    let p = program_in c.args.context.now in
    let g = c.args.graph.now in
    let row = c.args.row.now in
    let list = c.list-list.result in
    let is = list-was p (classes_in c.args.context.now) g g (grows-refl g) row.number c.requires.within list (registers_at g row.number) c.list-list.ensures in
    let starts : starts_as row.starts ≡ everywhere = search rules in
    let len : length list.threads.now ≡ 0 = grind (arith, nat_tests) in
    let empty : list.threads.now ≡ [] = nothing list.threads.now len in
    c.note.ensures p g c.requires.noted
    (row-noted p g c.args.memory.now.walk c.args.memory.now.seen.items row list.kind c.requires.within c.requires.begins c.requires.row c.in-None.is starts
    (ap (λ (l : ThreadList). l.threads) is ∙ ap (map thread_as) empty) (ap (λ (l : ThreadList). l.kind) is))
