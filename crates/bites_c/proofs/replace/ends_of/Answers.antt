use Rattle.std.proofs.Common.{None, sym, ap, ◌∙◌, arith}
use Rattle.std.proofs.lemmas.List.{get_or_default, get_or_past}
use Rattle.bites_c.specs.Put.{span_for_c}
use Rattle.bites_c.specs.Replaced.{span_from_c}
use Rattle.bites_c.proofs.replace.ends_of.Goals as goal

pub returns-then-group-groups-clause-ends : goal.returns-then-group-groups-clause-ends
returns-then-group-groups-clause-ends c =
    sym (ap span_from_c (get_or_past c.args.groups.now c.args.group (span_for_c None) (omega (arith, c.if-group-groups.true))))

pub returns-clause-ends : goal.returns-clause-ends
returns-clause-ends c =
    c.ends.ensures ∙ ap span_from_c (get_or_default c.args.groups.now c.args.group _ (span_for_c None) c.if-group-groups.false)
