use Rattle.bites_table.proofs.Library.{◌∙◌, ap, sym, arith}
use Rattle.bites_table.proofs.SearchesLemmas.{same_same, still_on, still_piece}
use Rattle.bites_table.proofs.search.record.Search.pass_piece.Goals as goal

-- where it was not passed so, the search can go on as before
pub pass_steps-requires : goal.pass_steps-requires
pass_steps-requires g c =
    let same = c.in_default.ensures.same in (
      (_, _, still_on _ _ c.args.width g.before c.args.at _ _ c.args.was_found c.args.slots.now same c.in_default.ensures.kept c.requires.0),
      (still_piece _ _ g.before c.args.at.place c.args.piece.class c.args.piece.len same c.requires.1.1, omega arith),
    )

pub pass_hits-requires : goal.pass_hits-requires
pass_hits-requires g c =
    let quiet = c.in_default.ensures in
    let steps = c.in_default-pass_steps.ensures in
    let same = same_same _ _ _ quiet.same steps.same in (
      still_on _ _ c.args.width g.before c.args.at _ _ c.args.was_found c.args.slots.now same (steps.kept.0 ∙ quiet.kept.0, steps.kept.1 ∙ quiet.kept.1) c.requires.0,
      (c.requires.1.0 ∙ ap (λ i. i.now.haystack.now) (sym same.input), (still_piece _ _ g.before c.args.at.place c.args.piece.class c.args.piece.len same c.requires.1.1, omega arith)),
    )
