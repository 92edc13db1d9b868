use Rattle.bites_table.proofs.Library.{rules, ◌≡◌, ◌+◌, reverse, length, sym, ap, ◌∙◌, subst, Some, slice_set, length-set}
use Rattle.bites_table.proofs.Words.{Cell, Graph, with_cells, IsMade}
use Rattle.bites_table.proofs.ExploreLemmas.{made-set}
use Rattle.bites_table.proofs.explore.set_cell.Goals as goal

pub returns : goal.returns
returns c p k within made asserts is =
    let g = c.args.graph.now in
    let row = c.args.row.now in
    let seen = c.args.memory.now.seen.items in
    let x : Cell = record { outcome = c.args.outcome; seen = reverse c.visits.result.value.items; looks = c.of.result.value } in
    let looks : x.looks ≡ row.looks = search rules in
    let new : c.set.new.self ≡ with_cells g (slice_set g.cells (row.first + c.args.class) (Some x)) = c.set.ensures in
    record {
      made = subst (IsMade p k) (sym new) (made-set p k g c.args.class c.args.memory.now.walk seen row x within c.requires.at.begins c.requires.class asserts is c.visits.ensures looks made);
      same = new ∙ ap (λ (h : Graph). with_cells g h.cells) (sym new);
      len = ap (λ (h : Graph). length h.cells) new ∙ length-set g.cells (row.first + c.args.class) (Some x);
    }
