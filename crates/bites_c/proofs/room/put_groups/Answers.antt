use Rattle.std.proofs.Common.{◌≡◌, ◌<◌, ◌+◌, ◌*◌, length, ◌∙◌, arith}
use Rattle.std.proofs.lemmas.Grind.{common_steps}
use Rattle.std.proofs.lemmas.List.{length-set, get_or_default}
use Rattle.bites_spec.specs.Slots.{slot_in, span_between}
use Rattle.bites_c.specs.Put.{span_for_c}
use Rattle.bites_c.proofs.FrontLemmas.{one_put}
use Rattle.bites_c.proofs.room.put_groups.Goals as goal

pub loop-group-preserved : goal.loop-group-preserved
loop-group-preserved c =
    let l = c.loop-group in let slots = c.args.locations.now in
    let less : l.group < length l.groups = grind (arith, common_steps) in
    let put : c.of.result ≡ span_for_c (span_between (slot_in slots (2 * l.group)) (slot_in slots (2 * l.group + 1))) = grind (arith, common_steps, get_or_default) in (
      one_put slots l.group c.args.groups.now l.groups c.of.result less put l.invariant.0,
      length-set l.groups l.group c.of.result ∙ l.invariant.1,
    )
