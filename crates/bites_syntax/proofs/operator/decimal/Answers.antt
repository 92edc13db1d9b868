use Rattle.std.proofs.Common.{arith, sym, ap, ◌∙◌, Some}
use Rattle.bites_syntax.specs.FlagsView.{flags_of}
use Rattle.bites_syntax.proofs.NumberLemmas.{small_decimal, large_decimal}
use Rattle.bites_syntax.proofs.PartLemmas.{no_longer}
use Rattle.bites_syntax.proofs.operator.decimal.Goals as goal

pub returns-then-value-lt-TOO_LARGE : goal.returns-then-value-lt-TOO_LARGE
returns-then-value-lt-TOO_LARGE c = no_longer (grind arith) λ n room.
    small_decimal n (flags_of c.args.flags) _ _ _ _ _ room c.skip_white.ensures.reads (sym c.if-not-is_at.ensures) c.number-value.ensures.value (omega arith)
    c.number-value.ensures.rest.reads c.pass_each.ensures.reads

pub returns-else-value-lt-TOO_LARGE : goal.returns-else-value-lt-TOO_LARGE
returns-else-value-lt-TOO_LARGE c = no_longer (grind arith) λ n room.
    large_decimal n (flags_of c.args.flags) _ _ _ _ _ room c.skip_white.ensures.reads (sym c.if-not-is_at.ensures) c.number-value.ensures.value (omega arith)
    c.number-value.ensures.rest.reads c.pass_each.ensures.reads
    ∙ ap Some (sym c.fault-else-value-lt-TOO_LARGE.ensures)
