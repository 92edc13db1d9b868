use Rattle.std.proofs.Common.{arith}
use Rattle.bites_syntax.specs.FlagsView.{flags_of}
use Rattle.bites_syntax.proofs.CursorLemmas.{peeked}
use Rattle.bites_syntax.proofs.MemberParts.{leading_bracket, leading_dashes}
use Rattle.bites_syntax.proofs.PartLemmas.{no_longer}
use Rattle.bites_syntax.proofs.bracket.leading.Goals as goal

pub returns-in-Some-eq45 : goal.returns-in-Some-eq45
returns-in-Some-eq45 c = no_longer (grind arith) λ n room negated.
    leading_dashes n (flags_of c.args.flags) negated _ _ _ _ _ room c.in-Some-eq45.ensures c.in-Some-eq45.field-0-test c.pass_each.ensures.reads c.unless_at_end.ensures

pub returns-in-Some-eq93 : goal.returns-in-Some-eq93
returns-in-Some-eq93 c = no_longer (grind arith) λ n room negated.
    leading_bracket n (flags_of c.args.flags) negated _ _ _ _ _ room (peeked _ _ _ c.in-Some-eq93.ensures c.bump.ensures.rest.reads) c.in-Some-eq93.field-0-test c.skip.ensures.reads
    c.unless_at_end-in-Some-eq93.ensures
