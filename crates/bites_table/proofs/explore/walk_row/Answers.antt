use Rattle.bites_table.proofs.Library.{rules, ◌≡◌, None, refl, sym, ap, ◌∙◌}
use Rattle.bites_table.proofs.Words.{everywhere, starts_as, kind_as, list_of, registers_at, program_in, classes_in, Row}
use denote.Enum.Bare.{same_true}
use Rattle.bites_table.specs.contracts.thread_list.Starts.{the_type}
use Rattle.bites_table.specs.declared.thread_list.Starts.TheVariants.{Everywhere}
use Rattle.bites_table.proofs.GraphLemmas.{grows-refl}
use Rattle.bites_table.proofs.ExploreLemmas.{list-was, rows-alone, rows-joined}
use Rattle.bites_table.proofs.explore.walk_row.Goals as goal

pub returns-clause-row : goal.returns-clause-row
returns-clause-row c =
    let g = c.args.graph.now in
    let list = c.list-list.result in
    let row : Row = record { number = c.args.number; first = c.args.first; kind = c.args.kind; looks = c.in_ok-looks.looks; starts = list.starts; base = None } in
    let end = c.walk_to_end.ensures in
    rows-alone (program_in c.args.context.now) g (list_of list) c.walk_to_end.new.walk _ row refl
    (list-was (program_in c.args.context.now) (classes_in c.args.context.now) g g (grows-refl g) c.args.number c.requires.within list (registers_at g c.args.number) c.list-list.ensures)
    c.walk_threads.new.walk c.in_ok-looks.ensures.walked refl c.walk_to_end.result end.walks end.over end.starts end.row

pub returns-in-Some-clause-row : goal.returns-in-Some-clause-row
returns-in-Some-clause-row c =
    let g = c.args.graph.now in
    let list = c.list-list.result in
    let row : Row = record { number = c.args.number; first = c.args.first; kind = c.args.kind; looks = c.in_ok-looks.looks; starts = list.starts; base = None } in
    let x = c.in-Some.noted.now in
    let found = c.in-Some.ensures in
    let starts : starts_as list.starts ≡ everywhere =
    ap starts_as (let same : list.starts ≡ Everywhere = same_true the_type (search rules) list.starts Everywhere (sym c.eq.ensures ∙ c.if-eq.true) in same) in
    rows-joined (program_in c.args.context.now) g (list_of list) c.walk_threads.new.walk c.join_noted.new.seen.items row refl
    (list-was (program_in c.args.context.now) (classes_in c.args.context.now) g g (grows-refl g) c.args.number c.requires.within list (registers_at g c.args.number) c.list-list.ensures)
    x (c.requires.noted found.number x found.there) c.in_ok-looks.ensures.walked (c.is_at_start.ensures.stack c.if-is_at_start.true) (c.is_at_start.ensures.nothing c.if-is_at_start.true) starts
    (ap kind_as found.before) found.after found.apart refl c.join_noted.result c.join_noted.ensures.seen c.join_noted.ensures.row
