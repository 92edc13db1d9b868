use Rattle.std.proofs.Common.{◌≢◌, refl, sym, subst, ◌∙◌}
use Rattle.bites_text.specs.declared.error.Error.{Error as Fault}
use Rattle.bites_text.specs.declared.error.Error.TheVariants.{Memory}
use Rattle.bites_bytes.specs.Settings.{Refuses}
use Rattle.bites_c.specs.Words.{asked}
use Rattle.bites_c.proofs.CodesLemmas.{codes_differ}
use Rattle.bites_c.proofs.make.regex.Goals as goal

-- the number is that of one error
pub returns-in-Err-clause-message : goal.returns-in-Err-clause-message
returns-in-Err-clause-message c e is other =
    let same = codes_differ c.in-Err.error e (sym c.number.ensures ∙ is) in
    let told : c.in-Err.error ≢ Memory → Refuses (asked c.args.pattern.now c.args.flags c.args.size_limit c.args.nest_limit) c.in-Err.error =
    rw (← c.in-Ok.ensures.cases.0) c.in-Err.ensures.message in
    subst (λ (f : Fault). f ≢ Memory → Refuses (asked c.args.pattern.now c.args.flags c.args.size_limit c.args.nest_limit) f) same told other

-- out of memory is an error of its own
pub returns-in-None-clause-known : goal.returns-in-None-clause-known
returns-in-None-clause-known c other = (Memory, refl)
