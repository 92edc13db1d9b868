use Rattle.std.proofs.Common.{arith}
use Rattle.std.proofs.lemmas.Simd.{map-map}
use Rattle.bites_table.proofs.walk.push_threads.Goals as goal
use Rattle.bites_table.proofs.Library.{common_steps}

pub returns : goal.returns
returns c = grind (arith, common_steps, map-map)
