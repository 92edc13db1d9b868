use Rattle.bites_machine.proofs.Library.{arith}
use Rattle.bites_machine.proofs.templates.InterpolateLemmas.{stop_border, plain_none}
use Rattle.bites_machine.proofs.interpolate.next_part.Goals as goal

pub after_dollar-requires : goal.after_dollar-requires
after_dollar-requires c = plain_none c.args.rest.text.now c.as_bytes.result.now c.len_before-plain.result c.as_bytes.ensures.value c.len_before-plain.ensures c.if-plain-eq0.true c.requires

pub split_at-requires : goal.split_at-requires
split_at-requires c = stop_border 36 c.args.rest.text.now c.as_bytes.result.now c.len_before-plain.result c.as_bytes.ensures.value c.len_before-plain.ensures (omega arith)
