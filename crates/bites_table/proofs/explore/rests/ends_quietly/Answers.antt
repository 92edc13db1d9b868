use Rattle.bites_table.proofs.Library.{◌≡◌, None, rules, slice_index_or}
use Rattle.bites_table.proofs.Words.{list_at, table_of, outcome_of, program_in, classes_in, Edge}
use Rattle.bites_table.proofs.StayLemmas.{ends-so}
use Rattle.bites_table.proofs.explore.rests.ends_quietly.Goals as goal

pub returns-then-is_none : goal.returns-then-is_none
unfolding classes_in
returns-then-is_none c = λ e seen looks all.
    let g = c.args.graph.now in
    let end = c.end-end.result in
    let within = c.is_among.ensures.within e in
    let kind = slice_index_or c.args.context.now.after.now end Edge in
    let hit : c.in-Some.outcome.hit ≡ None = search rules in
    ends-so (program_in c.args.context.now) (classes_in c.args.context.now) g c.requires.table c.args.number end c.end-end.ensures.class (outcome_of c.in-Some.outcome) c.in-Some.ensures hit
    kind (c.requires.context.after (list_at (table_of g) c.args.number).kind end within) seen looks (all kind (c.is_among.ensures.among e))
