use Rattle.std.proofs.Common.{◌≡◌, ◌≤◌, length, arith, ◌∙◌}
use Rattle.bites_syntax.specs.FlagsView.{flags_of}
use Rattle.bites_syntax.proofs.EscapeParts.{escape_boundary}
use Rattle.bites_syntax.proofs.PartLemmas.{no_longer}
use Rattle.bites_syntax.proofs.escape.escape.Goals as goal

pub returns-in_ok-boundary-in-Some-b : goal.returns-in_ok-boundary-in-Some-b
returns-in_ok-boundary-in-Some-b c = no_longer (grind arith) λ n room.
    let is : c.in-Some-b.field-0 ≡ 98 = omega (arith, c.in-Some-b.field-0-is) in
    let enough : length c.bump.new.self ≤ n = omega (arith, room, c.bump.ensures.rest.forward) in
    let read = c.in_ok-boundary-in-Some-b.ensures.reads n enough in
    (read.0, escape_boundary n (flags_of c.args.flags) _ _ _ c.in-Some-b.ensures.value is ∙ read.1, read.2)
