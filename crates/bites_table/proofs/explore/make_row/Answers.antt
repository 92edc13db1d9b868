use Rattle.bites_table.proofs.Library.{◌<◌, length, refl, sym, subst}
use Rattle.bites_table.proofs.Words.{IsRowOf, program_in, classes_in, IsMaking}
use Rattle.bites_table.proofs.GraphLemmas.{grows-refl, grows-trans, grows-within}
use Rattle.bites_table.proofs.ExploreLemmas.{row-making, filled-making, row-stays, filled-grows}
use Rattle.bites_table.proofs.explore.make_row.Goals as goal

pub returns-in_err-first : goal.returns-in_err-first
returns-in_err-first c =
    let added = row-making c.args.context.now c.args.graph.now c.add_row.new.self c.add_row.ensures.added.0 c.args.memory.now.base c.add_row.ensures.added.1 c.requires.making in
    record { making = added.1; grows = added.0 }

pub loop-kind-init : goal.loop-kind-init
loop-kind-init c =
    let added = row-making c.args.context.now c.args.graph.now c.add_row.new.self c.add_row.ensures.added.0 c.args.memory.now.base c.add_row.ensures.added.1 c.requires.making in
    record { making = added.1; grows = grows-refl c.add_row.new.self; len = refl }

pub returns-in_err-left-clause-making : goal.returns-in_err-left-clause-making
returns-in_err-left-clause-making c =
    filled-making c.args.context.now c.loop-kind.graph c.share.new.graph c.walk_row.new.memory.base c.share.ensures
    (subst (IsMaking c.args.context.now c.loop-kind.graph) (sym c.walk_row.ensures.base) c.loop-kind.invariant.making)

pub add_cells-requires-clause-making : goal.add_cells-requires-clause-making
add_cells-requires-clause-making c =
    filled-making c.args.context.now c.loop-kind.graph c.share.new.graph c.walk_row.new.memory.base c.share.ensures
    (subst (IsMaking c.args.context.now c.loop-kind.graph) (sym c.walk_row.ensures.base) c.loop-kind.invariant.making)

pub add_cells-requires-clause-row : goal.add_cells-requires-clause-row
add_cells-requires-clause-row c =
    let x = c.args.context.now in
    let own = c.loop-kind.graph in
    let row = c.in_ok-row.row in
    let added = row-making x c.args.graph.now c.add_row.new.self c.add_row.ensures.added.0 c.args.memory.now.base c.add_row.ensures.added.1 c.requires.making in
    let grown = grows-trans c.args.graph.now c.add_row.new.self own added.0 c.loop-kind.invariant.grows in
    let within : row.number < length own.lists = subst (λ n. n < length own.lists) (sym c.in_ok-row.ensures.number) (grows-within c.args.graph.now own grown c.args.number c.requires.within) in
    row-stays (program_in x) own c.share.new.graph (filled-grows (program_in x) (classes_in x) own c.share.new.graph c.share.ensures) c.walk_row.new.memory.walk c.walk_row.new.memory.seen.items row
    within c.in_ok-row.ensures.row

pub note-requires-clause-row : goal.note-requires-clause-row
note-requires-clause-row c =
    let x = c.args.context.now in
    let p = program_in x in
    let own = c.loop-kind.graph in
    let new = c.add_cells.new.graph in
    let row = c.in_ok-row.row in
    let w = c.walk_row.new.memory.walk in
    let seen = c.walk_row.new.memory.seen.items in
    let added = row-making x c.args.graph.now c.add_row.new.self c.add_row.ensures.added.0 c.args.memory.now.base c.add_row.ensures.added.1 c.requires.making in
    let grown = grows-trans c.args.graph.now c.add_row.new.self own added.0 c.loop-kind.invariant.grows in
    let within : row.number < length own.lists = subst (λ n. n < length own.lists) (sym c.in_ok-row.ensures.number) (grows-within c.args.graph.now own grown c.args.number c.requires.within) in
    let grows = grows-trans own c.share.new.graph new (filled-grows p (classes_in x) own c.share.new.graph c.share.ensures) c.add_cells.ensures.grows in
    subst (λ v. IsRowOf p new v c.add_cells.new.memory.seen.items row) (sym c.add_cells.ensures.walk)
    (subst (λ s. IsRowOf p new w s row) (sym c.add_cells.ensures.seen) (row-stays p own new grows w seen row within c.in_ok-row.ensures.row))
