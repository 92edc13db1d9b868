use Rattle.std.proofs.Common.{sym}
use Rattle.std.specs.Prelude.{codes}
use Rattle.bites_spec.specs.Class.{class_name}
use Rattle.bites_syntax.specs.View.{named_of}
use Rattle.bites_syntax.proofs.NamedParts.{all_three, no_first, no_second, no_third}
use Rattle.bites_syntax.proofs.bracket.after_name.Goals as goal

pub returns-then-not-bump_over : goal.returns-then-not-bump_over
returns-then-not-bump_over c =
    no_first c.args.opening.now (class_name (named_of c.args.name)) (codes ":]") c.args.cursor.now _ c.ahead-ahead.ensures (sym c.if-not-bump_over.ensures.value)

pub returns-then-not-bump_over-2 : goal.returns-then-not-bump_over-2
returns-then-not-bump_over-2 c =
    rw (← c.name.ensures) (no_second c.args.opening.now c.name.result.now (codes ":]") c.args.cursor.now _ _ c.ahead-ahead.ensures c.if-not-bump_over.ensures.rest.reads
    (sym c.if-not-bump_over-2.ensures.value))

pub returns-then-not-bump_over-3 : goal.returns-then-not-bump_over-3
returns-then-not-bump_over-3 c =
    rw (← c.name.ensures) (no_third c.args.opening.now c.name.result.now (codes ":]") c.args.cursor.now _ _ _ c.ahead-ahead.ensures c.if-not-bump_over.ensures.rest.reads
    c.if-not-bump_over-2.ensures.rest.reads (sym c.if-not-bump_over-3.ensures.value))

pub returns : goal.returns
returns c =
    rw (← c.name.ensures) (all_three c.args.opening.now c.name.result.now (codes ":]") c.args.cursor.now _ _ _ _ c.ahead-ahead.ensures (sym c.if-not-bump_over.ensures.value)
    c.if-not-bump_over.ensures.rest.reads (sym c.if-not-bump_over-2.ensures.value) c.if-not-bump_over-2.ensures.rest.reads (sym c.if-not-bump_over-3.ensures.value)
    c.if-not-bump_over-3.ensures.rest.reads)
