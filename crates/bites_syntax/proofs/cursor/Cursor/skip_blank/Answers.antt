use Rattle.std.proofs.Common.{arith, sym, ◌∙◌}
use Rattle.bites_syntax.proofs.CursorLemmas.{peeked, skip_blank_more, skip_blank_stops, skip_blank-nil}
use Rattle.bites_syntax.proofs.PartLemmas.{no_longer}
use Rattle.bites_syntax.proofs.cursor.Cursor.skip_blank.Goals as goal

pub loop-c-preserved : goal.loop-c-preserved
loop-c-preserved c =
    let at = peeked _ _ _ c.in-Some.ensures c.bump.ensures.rest.reads in
    (rw c.is_inside-inside.ensures (sym (skip_blank_more _ _ _ _ at (sym c.if-not-is_blank.ensures)) ∙ c.loop-c.invariant.0), omega arith)

pub returns-then-not-is_blank : goal.returns-then-not-is_blank
returns-then-not-is_blank c = no_longer (grind arith) (
    sym (skip_blank_stops _ _ _ _ c.in-Some.ensures (sym c.if-not-is_blank.ensures)) ∙ c.loop-c.invariant.0)

pub returns-in_default : goal.returns-in_default
returns-in_default c = no_longer (grind arith) (sym (skip_blank-nil _ _ c.in_default.ensures) ∙ c.loop-c.invariant.0)
