use Rattle.std.proofs.Common.{arith}
use Rattle.bites_syntax.specs.FlagsView.{flags_of}
use Rattle.bites_syntax.proofs.CursorLemmas.{peeked}
use Rattle.bites_syntax.proofs.HexadecimalLemmas.{hexadecimal_braced}
use Rattle.bites_syntax.proofs.PartLemmas.{no_longer}
use Rattle.bites_syntax.proofs.hexadecimal.hexadecimal.Goals as goal

pub returns-in-Some-eq123 : goal.returns-in-Some-eq123
returns-in-Some-eq123 c = no_longer (grind arith) λ n room.
    rw (hexadecimal_braced n c.args.count (flags_of c.args.flags) _ _ _ _ room (peeked _ _ _ c.in-Some-eq123.ensures c.bump.ensures.rest.reads) c.in-Some-eq123.field-0-test c.skip.ensures.reads) c.in_braces.ensures.reads
