use Rattle.std.proofs.Common.{refl, arith}
use Rattle.std.proofs.lemmas.Bool.Decides.{nat_tests}
use Rattle.bites_literals.proofs.FixedWidthLemmas.{adds_start, adds_end}
use Rattle.bites_literals.proofs.fixed_width.FixedWidth.add_look.Goals as goal

pub returns-in-Start : goal.returns-in-Start
returns-in-Start c told = rw c.in-Start.is (adds_start c.args.self.now c.requires (grind (arith, nat_tests)))

pub returns-in-End : goal.returns-in-End
returns-in-End c told = rw c.in-End.is (adds_end c.args.self.now _ c.requires refl refl refl refl)
