use Rattle.std.proofs.Common.{◌≡◌, ◌+◌, ◌-◌, ◌*◌, min, suc, refl, arith}
use Rattle.std.proofs.lemmas.Result.{err_from_is_err_and}
use Rattle.bites_syntax.specs.FlagsView.{flags_of}
use Rattle.bites_syntax.proofs.HexadecimalLemmas.{between_none, between_some, fixed_fault, fixed_step}
use Rattle.bites_syntax.proofs.PartLemmas.{no_longer}
use Rattle.bites_syntax.proofs.hexadecimal.exactly.Goals as goal

pub loop-left-preserved : goal.loop-left-preserved
loop-left-preserved c =
    let read = c.in_ok-hex_digit.ensures.reads in
    let more : c.loop-left.left ≡ suc (c.loop-left.left - 1) = omega arith in
    let value : c.min-value.result ≡ min 4294967296 (c.loop-left.value * 16 + c.in_ok-hex_digit.field-0) = rw (← c.from.ensures) c.min-value.ensures in
    let behind = between_none (c.loop-left.left - 1) (flags_of c.args.flags) _ _ c.if-left-gt0.false refl in
    let step = fixed_step _ _ _ _ _ _ (flags_of c.args.flags) _ _ _ _ _ more read.1 read.2 read.3 behind value c.loop-left.invariant.1 c.loop-left.invariant.2 in
    (step.0, step.1, step.2, omega (arith, c.min-value.ensures), omega arith)

pub loop-left-preserved-then-left-gt0 : goal.loop-left-preserved-then-left-gt0
loop-left-preserved-then-left-gt0 c =
    let read = c.in_ok-hex_digit.ensures.reads in
    let more : c.loop-left.left ≡ suc (c.loop-left.left - 1) = omega arith in
    let value : c.min-value.result ≡ min 4294967296 (c.loop-left.value * 16 + c.in_ok-hex_digit.field-0) = rw (← c.from.ensures) c.min-value.ensures in
    let behind = between_some (c.loop-left.left - 1) (flags_of c.args.flags) _ _ c.if-left-gt0.true c.skip.ensures.reads in
    let step = fixed_step _ _ _ _ _ _ (flags_of c.args.flags) _ _ _ _ _ more read.1 read.2 read.3 behind value c.loop-left.invariant.1 c.loop-left.invariant.2 in
    (step.0, step.1, step.2, omega (arith, c.min-value.ensures), omega arith)

pub returns-in_err-hex_digit : goal.returns-in_err-hex_digit
returns-in_err-hex_digit c = no_longer (grind arith) (
    let p = err_from_is_err_and c.from_residual.result c.from_residual.ensures.1 in
    let more : c.loop-left.left ≡ suc (c.loop-left.left - 1) = omega arith in
    rw (p.1, p.2) (fixed_fault _ _ _ (flags_of c.args.flags) _ _ _ _ more c.in_err-hex_digit.ensures.reads c.loop-left.invariant.1))
