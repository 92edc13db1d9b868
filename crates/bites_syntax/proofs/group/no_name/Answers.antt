use Rattle.std.proofs.Common.{◌≤◌, ◌+◌, sym, refl, ap, ◌∙◌, arith, None}
use Rattle.bites_spec.specs.Group.{numbered, with_group}
use Rattle.bites_spec.specs.Reader.{group}
use Rattle.bites_syntax.proofs.GroupLemmas.{no_name_plain, opened_one_more}
use Rattle.bites_syntax.proofs.PartLemmas.{no_longer}
use Rattle.bites_syntax.proofs.group.no_name.Goals as goal

pub returns : goal.returns
returns c = no_longer (grind arith) λ g is.
    let room : g.groups + 1 ≤ 4294967295 = omega (arith, is.groups, c.in-Some.ensures.0) in (
      group (numbered None) (with_group None g),
      rw c.if-bump_if.ensures.rest.reads (no_name_plain g c.args.cursor.now (sym c.if-bump_if.ensures.value) room),
      (
        None,
        with_group None g,
        refl,
        refl,
        refl,
        record {
          flags = is.flags;
          groups = c.in-Some.ensures.1 ∙ ap (λ n. n + 1) is.groups;
          names = is.names;
          opened = c.in_ok-push.ensures ∙ opened_one_more c.args.state.now.opened None g is.opened;
        },
      ),
    )
