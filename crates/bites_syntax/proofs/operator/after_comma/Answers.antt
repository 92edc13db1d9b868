use Rattle.std.proofs.Common.{arith}
use Rattle.std.proofs.lemmas.Result.{err_from_is_err_and}
use Rattle.bites_syntax.specs.FlagsView.{flags_of}
use Rattle.bites_syntax.proofs.PartLemmas.{after_comma_fault, no_longer}
use Rattle.bites_syntax.proofs.operator.after_comma.Goals as goal

pub returns-in_err-max-in-Some : goal.returns-in_err-max-in-Some
returns-in_err-max-in-Some c = no_longer (grind arith) λ n room.
    let p = err_from_is_err_and c.from_residual.result c.from_residual.ensures.1 in
    rw (p.1, p.2)
    (after_comma_fault n (flags_of c.args.flags) c.args.min _ _ _ _ c.in-Some.ensures c.in-Some.field-0-test.1 (c.in_err-max-in-Some.ensures.reads n room))
