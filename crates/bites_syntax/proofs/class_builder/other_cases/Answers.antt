use Rattle.std.proofs.lemmas.Grind.{common_steps}
use Rattle.std.proofs.Common.{arith}
use Rattle.bites_syntax.proofs.class_builder.other_cases.Goals as goal

pub ranges-2-preserved : goal.ranges-2-preserved
ranges-2-preserved c = grind (arith, common_steps)

pub returns : goal.returns
returns c = grind (arith, common_steps)
