use Rattle.std.proofs.Common.{arith, sym, ◌∙◌}
use Rattle.bites_syntax.proofs.CursorLemmas.{peeked, skip_white_more, skip_white_stops, skip_white-nil}
use Rattle.bites_syntax.proofs.PartLemmas.{no_longer}
use Rattle.bites_syntax.proofs.cursor.Cursor.skip_white.Goals as goal

pub loop-c-preserved : goal.loop-c-preserved
loop-c-preserved c =
    let at = peeked _ _ _ c.in-Some.ensures c.bump.ensures.rest.reads in
    (sym (skip_white_more _ _ _ at (sym c.if-not-is_whitespace.ensures)) ∙ c.loop-c.invariant.0, omega arith)

pub returns-then-not-is_whitespace : goal.returns-then-not-is_whitespace
returns-then-not-is_whitespace c = no_longer (grind arith) (
    sym (skip_white_stops _ _ _ c.in-Some.ensures (sym c.if-not-is_whitespace.ensures)) ∙ c.loop-c.invariant.0)

pub returns-in_default : goal.returns-in_default
returns-in_default c = no_longer (grind arith) (sym (skip_white-nil _ c.in_default.ensures) ∙ c.loop-c.invariant.0)
