use Rattle.std.proofs.Common.{◌++◌, string_bytes, append-nil, arith, sym, ap, ◌∙◌}
use Rattle.bites_spec.specs.Escape.{is_boundary_letter}
use Rattle.bites_syntax.specs.FlagsView.{flags_of}
use Rattle.bites_syntax.proofs.CursorLemmas.{each_more, each_ends}
use Rattle.bites_syntax.proofs.EscapeParts.{letter_small, run_more}
use Rattle.bites_syntax.proofs.PartLemmas.{no_longer}
use Rattle.bites_syntax.proofs.escape.letters.Goals as goal

pub loop-c-preserved : goal.loop-c-preserved
loop-c-preserved c =
    let taken = c.in-Some.ensures.value.reads in
    let more = each_more (flags_of c.args.flags) is_boundary_letter _ _ _ taken.1 taken.0 in (
      run_more (flags_of c.args.flags) is_boundary_letter _ _ _ _ _ _ _ taken.0 taken.1 taken.2 c.in_ok-push.ensures.bytes
          (c.in_ok-push.ensures.ascii (letter_small _ taken.0)) c.loop-c.invariant.0,
      rw taken.2 (sym (ap (λ r. r.1) more) ∙ c.loop-c.invariant.1),
      omega arith,
    )

pub returns-clause-letters : goal.returns-clause-letters
returns-clause-letters c =
    let ends = ap (λ r. r.0) (each_ends (flags_of c.args.flags) is_boundary_letter _ c.in_default.ensures.value.reads.0) in
    sym (append-nil (string_bytes c.loop-c.letters)) ∙ ap (λ x. string_bytes c.loop-c.letters ++ x) (sym ends) ∙ c.loop-c.invariant.0

pub returns-clause-rest : goal.returns-clause-rest
returns-clause-rest c = no_longer (grind arith) (
    let ends = ap (λ r. r.1) (each_ends (flags_of c.args.flags) is_boundary_letter _ c.in_default.ensures.value.reads.0) in
    c.in_default.ensures.value.reads.1 ∙ sym ends ∙ c.loop-c.invariant.1)
