use Rattle.std.proofs.Common.{arith}
use Rattle.bites_bytes.proofs.CountLemmas.{length-pieces}
use Rattle.bites_bytes.proofs.bytes.split.Split.count.Goals as goal

pub overflow_add-result : goal.overflow_add-result
overflow_add-result c = omega (arith, c.count.ensures.bound)

pub returns : goal.returns
returns c = omega (arith, c.count.ensures.left, length-pieces c.args.self c.if-done.false)
