use Rattle.std.proofs.Common.{arith, sym, ap, ◌∙◌, inr, Some}
use Rattle.bites_syntax.proofs.CursorLemmas.{peeked}
use Rattle.bites_syntax.proofs.FlagLemmas.{flags_from_more, contains_one_of, repeated_fault}
use Rattle.bites_syntax.proofs.PartLemmas.{no_longer}
use Rattle.bites_syntax.proofs.flags.flag_run.Goals as goal

pub returns-then-contains-clause-run : goal.returns-then-contains-clause-run
returns-then-contains-clause-run c = no_longer (grind arith) λ front.
    inr (repeated_fault front _ c.loop-c.cursor _ c.args.cursor.now c.in-Some.c _ (c.loop-c.invariant.0 front) c.in-Some.ensures (sym c.if-ends_run.ensures) (sym c.if-not-is_flag_mark.ensures)
    (rw c.deref.ensures.value at (sym (contains_one_of _ c.in-Some.c) ∙ sym c.if-contains.ensures.value)) c.duplicate_error.ensures
    ∙ ap Some (sym c.fault-then-contains.ensures))

pub loop-c-preserved : goal.loop-c-preserved
loop-c-preserved c = (
  λ front. c.loop-c.invariant.0 front ∙ rw c.in_ok-push.ensures.items
      (flags_from_more front _ _ _ c.in-Some.c (peeked _ _ _ c.in-Some.ensures c.bump.ensures.rest.reads) (sym c.if-ends_run.ensures) (sym c.if-not-is_flag_mark.ensures)
      (rw c.deref.ensures.value at (sym (contains_one_of _ c.in-Some.c) ∙ sym c.if-contains.ensures.value))),
  omega arith,
)
