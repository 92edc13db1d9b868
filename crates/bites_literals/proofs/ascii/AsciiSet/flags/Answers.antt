use Rattle.std.proofs.Common.{false, refl, arith}
use Rattle.std.proofs.lemmas.List.{get_or-replicate}
use Rattle.bites_literals.proofs.ascii.AsciiSet.flags.Goals as goal

pub loop-byte-init : goal.loop-byte-init
loop-byte-init c = (refl, λ b h. absurd (omega (arith, h)), λ b from below. get_or-replicate 256 b c.args.others false below)
