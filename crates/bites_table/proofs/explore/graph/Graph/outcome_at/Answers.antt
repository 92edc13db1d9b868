use Rattle.bites_table.proofs.Library.{rules, ◌≡◌, ◌+◌, ◌<◌, Some, option_map, length, refl, sym, ap, ◌∙◌, subst, slice_get, slice_get-map, slice_get_read}
use Rattle.bites_table.proofs.Words.{Graph, cell_of, NamesAt}
use Rattle.bites_table.proofs.explore.graph.Graph.outcome_at.Goals as goal

pub returns-in-Some : goal.returns-in-Some
returns-in-Some c =
    let cells = c.self.inside.cells.items in
    let i = c.in_ok-index.index in
    let index : i ≡ c.in_ok-first.first + c.args.class = search rules in
    let within : i < length cells = search rules in
    let there : slice_get cells i ≡ Some (Some c.in-Some.cell) = slice_get_read cells (length cells) i c.index.result.now refl within c.index.ensures ∙ ap (λ o. Some o) c.in-Some.is in
    subst (λ (g : Graph). NamesAt g c.args.first c.args.class c.in-Some.cell.outcome) c.self.view_is
    (record {
      row = c.in_ok-first.first;
      first_is = c.in_ok-first.was;
      cell = cell_of c.in-Some.cell;
      known = slice_get-map (option_map cell_of) cells (c.in_ok-first.first + c.args.class) ∙ ap (option_map (option_map cell_of)) (ap (slice_get cells) (sym index) ∙ there);
      named = refl;
    })
