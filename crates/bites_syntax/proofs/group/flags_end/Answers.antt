use Rattle.std.proofs.Common.{sym, refl, ap, ◌∙◌}
use Rattle.std.specs.Prelude.{true}
use Rattle.std.proofs.lemmas.Bool.{ne_eqb}
use Rattle.bites_spec.specs.Group.{changed, unnumbered}
use Rattle.bites_spec.specs.Reader.{directive, group}
use Rattle.bites_syntax.proofs.GroupLemmas.{flags_none, flags_colon, flags_directive}
use Rattle.bites_syntax.proofs.group.flags_end.Goals as goal

pub returns-then-end-eq58 : goal.returns-then-end-eq58
returns-then-end-eq58 c = λ g rest at is.
    (group unnumbered g, flags_none g c.args.run.now rest c.args.end (sym c.if-is_empty.ensures) c.if-end-eq58.true, (g, refl, is))

pub returns-then-end-eq58-2 : goal.returns-then-end-eq58-2
returns-then-end-eq58-2 c = λ g rest at is. (
  group unnumbered (record g { flags = changed true c.args.run.now g.flags }),
  flags_colon g c.args.run.now rest c.args.end (sym c.if-is_empty.ensures) (sym c.if-ends_with_dash.ensures) c.if-end-eq58-2.true,
  (
    record g { flags = changed true c.args.run.now g.flags },
    refl,
    record { flags = c.changed-state.ensures ∙ ap (changed true c.args.run.now) is.flags; groups = is.groups; names = is.names; opened = is.opened },
  ),
)

pub returns-else-end-eq58-2 : goal.returns-else-end-eq58-2
returns-else-end-eq58-2 c = λ g rest at is. (
  directive (changed true c.args.run.now g.flags),
  flags_directive g c.args.run.now rest c.args.end (sym c.if-is_empty.ensures) (sym c.if-ends_with_dash.ensures) (ne_eqb c.args.end 58 c.if-end-eq58-2.false),
  (
    changed true c.args.run.now g.flags,
    refl,
    record { flags = c.changed-state.ensures ∙ ap (changed true c.args.run.now) is.flags; groups = is.groups; names = is.names; opened = is.opened },
  ),
)
