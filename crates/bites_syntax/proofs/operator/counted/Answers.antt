use Rattle.std.proofs.Common.{arith}
use Rattle.std.proofs.lemmas.Result.{err_from_is_err_and}
use Rattle.bites_syntax.specs.FlagsView.{flags_of}
use Rattle.bites_syntax.proofs.PartLemmas.{counted_fault, no_longer}
use Rattle.bites_syntax.proofs.operator.counted.Goals as goal

pub returns-in_err-min : goal.returns-in_err-min
returns-in_err-min c = no_longer (grind arith) λ n room.
    let p = err_from_is_err_and c.from_residual.result c.from_residual.ensures.1 in
    rw (p.1, p.2) (counted_fault n (flags_of c.args.flags) _ _ _ _ c.in-Some.ensures (c.in_err-min.ensures.reads n room))
