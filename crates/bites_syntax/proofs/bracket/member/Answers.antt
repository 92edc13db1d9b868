use Rattle.std.proofs.Common.{rules, arith}
use Rattle.bites_syntax.specs.FlagsView.{flags_of}
use Rattle.bites_syntax.proofs.MemberParts.{Adds_by, member_named}
use Rattle.bites_syntax.proofs.PartLemmas.{reads_some}
use Rattle.bites_syntax.proofs.bracket.member.Goals as goal

pub returns-in-Some-eq91 : goal.returns-in-Some-eq91
returns-in-Some-eq91 c = reads_some (grind arith) (search rules) λ n room.
    Adds_by _ _ _ _ _ _ (λ go set. member_named go n (flags_of c.args.flags) set _ _ _ c.in-Some-eq91.ensures c.in-Some-eq91.field-0-test) c.named.ensures.reads
