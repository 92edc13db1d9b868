use Rattle.bites_machine.proofs.Library.{arith}
use Rattle.bites_machine.proofs.templates.InterpolateLemmas.{brace_none, brace_still_none, stop_border, brace_behind}
use Rattle.bites_machine.proofs.interpolate.in_braces.Goals as goal

pub invariant_of-open : goal.invariant_of-open
invariant_of-open c = search (arith, brace_still_none, brace_none)

pub split_at-requires : goal.split_at-requires
split_at-requires c = stop_border 125 c.after_first_character-inside.result.text.now c.as_bytes.result.now c.len_before-end.result c.as_bytes.ensures.value c.len_before-end.ensures (omega arith)

pub after_first_character-requires-clause-ascii : goal.after_first_character-requires-clause-ascii
after_first_character-requires-clause-ascii c = search (arith, brace_behind)
